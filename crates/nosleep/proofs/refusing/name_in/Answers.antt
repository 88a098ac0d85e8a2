use Rattle.std.proofs.Common.{refl, map, ◌≡◌, ◌∙◌, ap, Some, None, slice_get, option_map}
use Rattle.std.proofs.lemmas.Option.{slice_get-map, slice_get_past, slice_get_read}
use Rattle.nosleep.proofs.ReadLaws.{class_absent, class_there}
use Rattle.nosleep.proofs.refusing.name_in.Goals as goal

pub returns-in-Ok : goal.returns-in-Ok
returns-in-Ok c = λ contents are.
    let files = map (λ v. v.items) c.args.files.now in
    let at : slice_get c.args.files.now c.args.file ≡ Some c.in-Some.bytes.now = slice_get_read _ _ _ _ refl c.in-Some.ensures.lookup.3.0 c.in-Some.ensures.lookup.1 in
    let there : slice_get files c.args.file ≡ Some c.in-Some.bytes.now.items = slice_get-map (λ v. v.items) c.args.files.now c.args.file ∙ ap (λ o. option_map (λ v. v.items) o) at in
    let named = rw c.deref.ensures.value at c.in-Ok.ensures.name in
    class_there files contents c.args.file c.in-Some.bytes.now.items c.args.row c.in-Ok.name.items are there named

pub returns-in-None : goal.returns-in-None
returns-in-None c = λ contents are.
    let files = map (λ v. v.items) c.args.files.now in
    let at : slice_get c.args.files.now c.args.file ≡ None = slice_get_past _ _ c.in-None.ensures.lookup.3 in
    let there : slice_get files c.args.file ≡ None = slice_get-map (λ v. v.items) c.args.files.now c.args.file ∙ ap (λ o. option_map (λ v. v.items) o) at in
    c.new.ensures.items ∙ class_absent files contents c.args.file c.args.row are there
