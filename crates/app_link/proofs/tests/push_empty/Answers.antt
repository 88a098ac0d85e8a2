use Rattle.std.proofs.Common.{[], ◌∷◌, List, sym, subst, rules}
use Rattle.std.specs.List.{All}
use Rattle.std.proofs.lemmas.List.Elements.{All-append, All-cons, All-nil}
use Rattle.dex_file.specs.Content.{FileContent}
use Rattle.dex_file.specs.Sizes.{IsShort}
use Rattle.dex_file.proofs.Small.{content_short}
use Rattle.app_link.proofs.tests.push_empty.Goals as goal

pub returns-in_ok-push-in-Ok-clause-short : goal.returns-in_ok-push-in-Ok-clause-short
returns-in_ok-push-in-Ok-clause-short c =
    let short : IsShort c.in-Ok.file = content_short _ c.in-Ok.file c.in-Ok.ensures.content (search rules) in
    subst (λ (files : List FileContent). All IsShort files) (sym c.in_ok-push-in-Ok.ensures.items)
    (All-append IsShort c.args.files.now.items (c.in-Ok.file ∷ []) c.requires (All-cons IsShort c.in-Ok.file [] short (All-nil IsShort)))
