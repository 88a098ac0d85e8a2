use Rattle.std.proofs.Common.{[], ◌∷◌, ◌++◌, map, string_bytes, take, get_or, ℕ, List, ap, ap₂, ◌∙◌, sym, append-nil, append_assoc}
use Rattle.std.proofs.lemmas.List.{map_more, map-append, take_all}
use Rattle.nosleep.specs.Words.{FileName, dex_file}
use Rattle.nosleep.proofs.files.push_dex_names.Goals as goal

pub loop-i-init : goal.loop-i-init
loop-i-init c = sym (append-nil _)

pub loop-i-preserved : goal.loop-i-preserved
loop-i-preserved c =
    let x = get_or c.args.files.now c.loop-i.i c.index-files-i.result in
    let before = map string_bytes (take c.loop-i.i c.args.files.now) in
    let text = c.as_str.ensures.value ∙ ap string_bytes c.index-files-i.is in
    let more = ap (λ (xs : List (List ℕ)). map dex_file xs) (map_more string_bytes c.args.files.now c.loop-i.i c.index-files-i.result c.loop-i-test.true) ∙ map-append dex_file before (string_bytes x ∷ []) in
    c.in_ok-push.ensures.items ∙ ap₂ (λ (xs : List FileName) (t : List ℕ). xs ++ dex_file t ∷ []) c.loop-i.invariant text
    ∙ append_assoc {A = FileName} c.args.names.now.items (map dex_file before) (dex_file (string_bytes x) ∷ []) ∙ ap (λ (xs : List FileName). c.args.names.now.items ++ xs) (sym more)

pub returns : goal.returns
returns c = c.loop-i.invariant ∙ ap (λ xs. c.args.names.now.items ++ map dex_file (map string_bytes xs)) (take_all c.loop-i.i c.args.files.now c.loop-i-test.false)
