use Rattle.std.proofs.Common.{◌∙◌, ap, sym}
use Rattle.tag_rows.specs.Entering.{word_tag}
use Rattle.tag_rows.proofs.Words.{entry_tag}
use Rattle.tag_rows.proofs.starts.called_tag.Goals as goal

pub returns-in-Some : goal.returns-in-Some
returns-in-Some g c =
    c.call_word.ensures ∙ ap (word_tag _) c.in-Some.ensures ∙ sym (entry_tag _ _ _ c.requires.ins _ c.requires.register)

pub returns-in-None : goal.returns-in-None
returns-in-None g c =
    ap (word_tag _) c.in-None.ensures ∙ sym (entry_tag _ _ _ c.requires.ins _ c.requires.register)
