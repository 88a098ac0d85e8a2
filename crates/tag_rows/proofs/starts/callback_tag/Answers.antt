use Rattle.std.proofs.Common.{◌∙◌, ap, sym}
use Rattle.act_model.specs.Entries.{callback_words}
use Rattle.tag_rows.specs.Entering.{word_tag}
use Rattle.tag_rows.proofs.Words.{entry_tag}
use Rattle.tag_rows.proofs.starts.callback_tag.Goals as goal

pub returns-in-Some : goal.returns-in-Some
returns-in-Some c =
    let words = callback_words c.args.app.now c.args.method.now in
    c.callback_word.ensures ∙ ap (word_tag words) c.in-Some.ensures ∙ sym (entry_tag _ _ words c.requires.ins _ c.requires.register)

pub returns-in-None : goal.returns-in-None
returns-in-None c =
    let words = callback_words c.args.app.now c.args.method.now in
    ap (word_tag words) c.in-None.ensures ∙ sym (entry_tag _ _ words c.requires.ins _ c.requires.register)
