-- How many types, names and prototypes small files have.
use Rattle.std.proofs.Common.{◌≡◌, ◌≤◌, ◌+◌, ◌*◌, ℕ, true, false, List, [], ◌∷◌, length, fold, All, refl, arith, bytes_eq, ⊎_elim}
use Rattle.std.specs.List.{list_any}
use Rattle.std.proofs.lemmas.Bool.{cases_Bool}
use Rattle.std.proofs.lemmas.List.{length-map, length-append}
use Rattle.indexmap.specs.IndexSet.{insert_key}
use Rattle.app_model.specs.Words.{IsApp}
use Rattle.dex_file.specs.Content.{FileContent}
use Rattle.app_rows.specs.Linked.{linked}
use Rattle.app_rows.specs.Numbers.{protos_of, seen_in, string_at, type_numbers, proto_numbers, type_texts, types_in, with_new}
use Rattle.app_rows.specs.Small.{AreSmall, IsSmall}
use Rattle.app_rows.proofs.Sizes.{is_app, small_more}

one_more : (seen : List (List ℕ)) (x : List ℕ) → length (insert_key bytes_eq seen x) ≤ length seen + 1
one_more seen x = ⊎_elim
    (λ (yes : list_any (bytes_eq x) seen ≡ true). rw yes (omega arith))
    (λ (no : list_any (bytes_eq x) seen ≡ false). rw no (omega (arith, length-append seen (x ∷ []))))
    (cases_Bool (list_any (bytes_eq x) seen))

more_seen : (seen more : List (List ℕ)) → length (with_new seen more) ≤ length seen + length more
more_seen seen [] = omega arith
more_seen seen (x ∷ more) = omega (arith, one_more seen x, more_seen (insert_key bytes_eq seen x) more)

-- the lists of all files
module _ (list_of : FileContent → List (List ℕ)) (few : (file : FileContent) → IsSmall file → length (list_of file) ≤ 8388608) where
  abbrev all_of : List (List ℕ) → List FileContent → List (List ℕ)
  all_of seen files = fold (λ seen file. with_new seen (list_of file)) seen files

  all_few : (seen : List (List ℕ)) (files : List FileContent) → All IsSmall files → length (all_of seen files) ≤ length seen + 8388608 * length files
  all_few seen [] small = omega arith
  all_few seen (file ∷ more) small =
      let both = small_more _ file more refl small in
      omega (arith, few file both.0, more_seen seen (list_of file), all_few (with_new seen (list_of file)) more both.1)

few_protos : (types : List (List ℕ)) (file : FileContent) → IsSmall file → length (protos_of types file) ≤ 8388608
few_protos types file small = omega (arith, small.short.protos, length-map file.protos (proto_numbers (type_numbers types file)))

-- the application of small files, where it has few lock fields
pub small_app : (files : List FileContent) → AreSmall files → length (linked files).locks ≤ 64 → IsApp (linked files)
unfolding seen_in
small_app files small locks =
    let types = all_few type_texts (λ file few. omega (arith, few.short.types, length-map file.types (string_at file))) [] files small.each in
    let names = all_few (λ (file : FileContent). file.strings) (λ file few. few.short.strings) [] files small.each in
    let protos = all_few (protos_of (types_in files)) (few_protos (types_in files)) [] files small.each in
    is_app files small (omega (arith, types, small.count)) (omega (arith, names, small.count)) (omega (arith, protos, small.count)) locks
