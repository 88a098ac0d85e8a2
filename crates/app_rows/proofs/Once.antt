-- Types, names and prototypes of an application: none stands twice.
use Rattle.std.proofs.Common.{◌≡◌, ◌≢◌, ◌<◌, ℕ, suc, Bool, true, false, List, [], ◌∷◌, ◌++◌, length, map, fold, get_or, bytes_eq, All, refl, sym, ap, subst, ◌∙◌, true≢false, if◌then◌else◌, arith}
use Rattle.std.proofs.lemmas.List.Elements.{All-nil, All-push, All-map}
use Rattle.std.proofs.lemmas.List.Folds.{list_any_at}
use Rattle.std.proofs.lemmas.List.Kept.{AllPairs-cons}
use Rattle.std.proofs.lemmas.List.Quantifiers.{all_pairs_push}
use Rattle.std.proofs.lemmas.Slice.Eq.{bytes_eq-Decides}
use Rattle.std.specs.List.{list_any}
use Rattle.indexmap.specs.IndexSet.{insert_key}
use Rattle.ns_base.specs.declared.rows.TypeNo.{TypeNo}
use Rattle.app_model.specs.Parts.{ProtoParts}
use Rattle.app_model.specs.Sound.{AreDistinct}
use Rattle.dex_file.specs.Content.{ProtoContent, FileContent}
use Rattle.app_rows.specs.Numbers.{seen_in, with_new, types_in, protos_in, type_texts, type_numbers, proto_numbers, protos_of}
use Rattle.app_rows.specs.Linked.{linked, proto_row, type_no}

-- what each step of a fold keeps
pub kept_fold : {A B : Type 0} (Q : A → Type 0) (P : B → Type 0) (f : B → A → B) → ((x : B) (a : A) → Q a → P x → P (f x a))
    → (x : B) (xs : List A) → All Q xs → P x → P (fold f x xs)
kept_fold Q P f step x [] each h = h
kept_fold Q P f step x (a ∷ xs) each h =
    kept_fold Q P f step (f x a) xs (λ k d lt. each (suc k) d (omega arith)) (step x a (each 0 a (omega arith)) h)

-- a text is put where it is not there, and then it goes last
pub put : (P : List (List ℕ) → Type 0) (seen : List (List ℕ)) (text : List ℕ) → P seen
    → (list_any (bytes_eq text) seen ≡ false → P (seen ++ text ∷ [])) → P (insert_key bytes_eq seen text)
put P seen text there new = by (list_any (bytes_eq text) seen) refl
  where
    by : (b : Bool) → list_any (bytes_eq text) seen ≡ b → P (insert_key bytes_eq seen text)
    by true e = subst P (sym (ap (λ b. if b then seen else seen ++ text ∷ []) e)) there
    by false e = subst P (sym (ap (λ b. if b then seen else seen ++ text ∷ []) e)) (new e)

-- what holds of each text of a list and of those that come to it
pub put_each : (P : List ℕ → Type 0) (seen more : List (List ℕ)) → All P more → All P seen → All P (with_new seen more)
put_each P seen more each h =
    kept_fold P (λ l. All P l) (insert_key bytes_eq) (λ l text p so. put (λ l. All P l) l text so (λ _. All-push P l text so p)) seen more each h

pub files_each : (P : List ℕ → Type 0) (Q : FileContent → Type 0) (texts : FileContent → List (List ℕ)) → ((file : FileContent) → Q file → All P (texts file))
    → (files : List FileContent) → All Q files → All P (fold (λ seen file. with_new seen (texts file)) [] files)
files_each P Q texts of files each =
    kept_fold Q (λ l. All P l) (λ seen file. with_new seen (texts file)) (λ l file q so. put_each P l (texts file) (of file q) so) [] files each (All-nil P)

-- texts that are there once
once_put : (seen : List (List ℕ)) (text : List ℕ) → AreDistinct seen → AreDistinct (insert_key bytes_eq seen text)
once_put seen text h =
    put AreDistinct seen text h (λ none. all_pairs_push (λ a b. a ≢ b) seen text h
    (λ k d lt same. true≢false (sym (list_any_at (bytes_eq text) seen k d lt ((bytes_eq-Decides text (get_or seen k d)).1 (sym same))) ∙ none)))

once_new : (seen more : List (List ℕ)) → AreDistinct seen → AreDistinct (with_new seen more)
once_new seen more h = kept_fold (λ _. Unit {0}) AreDistinct (insert_key bytes_eq) (λ l text _ so. once_put l text so) seen more (λ _ _ _. tt) h

once_files : (texts : FileContent → List (List ℕ)) (files : List FileContent) → AreDistinct (fold (λ seen file. with_new seen (texts file)) [] files)
once_files texts files =
    kept_fold (λ _. Unit {0}) AreDistinct (λ seen file. with_new seen (texts file)) (λ l file _ so. once_new l (texts file) so) [] files (λ _ _ _. tt)
    (λ i j d lt below. absurd (omega arith))

-- a prototype's numbers have its result in front
abbrev IsSpelled : List ℕ → Type 0
IsSpelled numbers = 0 < length numbers

spelled_of : (types : List ℕ) (protos : List ProtoContent) → All IsSpelled (map (proto_numbers types) protos)
spelled_of types protos = All-map IsSpelled (proto_numbers types) protos (λ k d lt. omega arith)

spelled_all : (types : List (List ℕ)) (files : List FileContent) → All IsSpelled (protos_in types files)
spelled_all types files =
    files_each IsSpelled (λ _. Unit {0}) (protos_of types) (λ file _. spelled_of (type_numbers types file) file.protos) files (λ _ _ _. tt)

-- two such prototypes that are one row are one list of numbers
numbers_back : (ns : List ℕ) → map (λ (t : TypeNo). t.0) (map type_no ns) ≡ ns
numbers_back [] = refl
numbers_back (n ∷ ns) = ap (λ l. n ∷ l) (numbers_back ns)

one_row : (a b : List ℕ) → IsSpelled a → IsSpelled b → proto_row a ≡ proto_row b → a ≡ b
one_row [] b h k same = absurd (omega arith)
one_row (x ∷ xs) [] h k same = absurd (omega arith)
one_row (x ∷ xs) (y ∷ ys) h k same =
    let first : x ≡ y = ap (λ (p : ProtoParts). p.result.0) same in
    let rest : xs ≡ ys = sym (numbers_back xs) ∙ ap (λ (p : ProtoParts). map (λ (t : TypeNo). t.0) p.params) same ∙ numbers_back ys in
    ap (λ n. n ∷ xs) first ∙ ap (λ l. y ∷ l) rest

once_rows : (protos : List (List ℕ)) → All IsSpelled protos → AreDistinct protos → AreDistinct (map proto_row protos)
once_rows [] each h = λ i j d lt below. absurd (omega arith)
once_rows (p ∷ ps) each h =
    AllPairs-cons (λ a b. a ≢ b) (proto_row p) (map proto_row ps)
    (All-map (λ r. proto_row p ≢ r) proto_row ps
    (λ k d lt same. h 0 (suc k) d (omega arith) (omega arith) (one_row p (get_or ps k d) (each 0 p (omega arith)) (each (suc k) d (omega arith)) same)))
    (once_rows ps (λ k d lt. each (suc k) d (omega arith)) (λ i j d lt below. h (suc i) (suc j) d (omega arith) (omega arith)))

-- the application of some files
pub spelled_once : (files : List FileContent) → AreDistinct (linked files).types × AreDistinct (linked files).names × AreDistinct (linked files).protos
unfolding linked seen_in
spelled_once files =
    let types = types_in files in (
      once_files type_texts files,
      once_files (λ file. file.strings) files,
      once_rows (protos_in types files) (spelled_all types files) (once_files (protos_of types) files),
    )
