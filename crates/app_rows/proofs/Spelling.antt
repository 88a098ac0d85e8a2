-- A text that is in a list stands there at its number, and all that the files spell is in the lists.
use Rattle.std.proofs.Common.{◌≡◌, ◌<◌, ◌||◌, ◌+◌, ℕ, Bool, true, false, not, cond, ltb, lt-ltb, List, [], ◌∷◌, length, map, fold, get_or, unwrap_or, All, Some, None, slice_get, bytes_eq, refl, sym, ap, ◌∙◌, ⊎_elim, true≢false, one-add, slice_index}
use Rattle.std.specs.List.{list_any, position_or_len}
use Rattle.std.proofs.lemmas.Bool.{cases_Bool}
use Rattle.std.proofs.lemmas.Slice.Eq.{bytes_eq-Decides}
use Rattle.std.proofs.lemmas.List.{get_or-map}
use Rattle.std.proofs.lemmas.List.Elements.{All-nil, All-cons}
use Rattle.std.proofs.lemmas.List.Folds.{list_any-append}
use Rattle.std.proofs.lemmas.Option.{slice_get_within}
use Rattle.indexmap.specs.IndexSet.{insert_key}
use Rattle.dex_file.specs.Content.{FileContent}
use Rattle.app_rows.specs.Numbers.{number_in, with_new}

-- a list has a text
abbrev pub Has : List (List ℕ) → List ℕ → Type 0
Has ks t = list_any (bytes_eq t) ks ≡ true

-- the first place of a text in a list
module _ (t : List ℕ) where
  at_test : (k : List ℕ) (ks : List (List ℕ)) (b : Bool) → bytes_eq t k ≡ b → (b || list_any (bytes_eq t) ks) ≡ true
      → (Has ks t → slice_get ks (position_or_len (bytes_eq t) ks) ≡ Some t)
      → slice_get (k ∷ ks) (cond (not b) (1 + position_or_len (bytes_eq t) ks) 0) ≡ Some t
  at_test k ks true is h rest = ap Some (sym ((bytes_eq-Decides t k).0 is))
  at_test k ks false is h rest = ap (slice_get (k ∷ ks)) (one-add (position_or_len (bytes_eq t) ks)) ∙ rest h

  at_place : (ks : List (List ℕ)) → Has ks t → slice_get ks (position_or_len (bytes_eq t) ks) ≡ Some t
  at_place [] h = absurd (true≢false (sym h))
  at_place (k ∷ ks) h = at_test k ks (bytes_eq t k) refl h (at_place ks)

  -- its number
  number_place : (ks : List (List ℕ)) → Has ks t → number_in ks t ≡ position_or_len (bytes_eq t) ks
  number_place ks h =
      let below : ltb (position_or_len (bytes_eq t) ks) (length ks) ≡ true = lt-ltb _ _ (slice_get_within ks (position_or_len (bytes_eq t) ks) t (at_place ks h)) in
      ap (λ b. unwrap_or (cond b (Some (position_or_len (bytes_eq t) ks)) None) 0) below

  pub at_number : (ks : List (List ℕ)) → Has ks t → slice_get ks (number_in ks t) ≡ Some t
  at_number ks h = ap (slice_get ks) (number_place ks h) ∙ at_place ks h

  -- one more text
  has-insert : (ks : List (List ℕ)) (k : List ℕ) → Has ks t → Has (insert_key bytes_eq ks k) t
  has-insert ks k h = ⊎_elim (λ is. rw is h)
      (λ other. rw other (list_any-append (bytes_eq t) ks (k ∷ []) ∙ ap (λ b. b || list_any (bytes_eq t) (k ∷ [])) h)) (cases_Bool (list_any (bytes_eq k) ks))

  has-more : (ks more : List (List ℕ)) → Has ks t → Has (with_new ks more) t
  has-more ks [] h = h
  has-more ks (k ∷ more) h = has-more (insert_key bytes_eq ks k) more (has-insert ks k h)

  has-files : (f : FileContent → List (List ℕ)) (ks : List (List ℕ)) (files : List FileContent) → Has ks t
      → Has (fold (λ seen file. with_new seen (f file)) ks files) t
  has-files f ks [] h = h
  has-files f ks (file ∷ files) h = has-files f (with_new ks (f file)) files (has-more ks (f file) h)

has-own : (ks : List (List ℕ)) (k : List ℕ) → Has (insert_key bytes_eq ks k) k
has-own ks k = ⊎_elim (λ is. rw is is)
    (λ other. rw other (list_any-append (bytes_eq k) ks (k ∷ []) ∙ ap (λ b. b || list_any (bytes_eq k) (k ∷ [])) other
    ∙ ap (λ b. b || false) ((bytes_eq-Decides k k).1 refl))) (cases_Bool (list_any (bytes_eq k) ks))

-- all that is added is there
has_new : (ks more : List (List ℕ)) → All (Has (with_new ks more)) more
has_new ks [] = All-nil _
has_new ks (k ∷ more) =
    All-cons (Has (with_new ks (k ∷ more))) k more (has-more k (insert_key bytes_eq ks k) more (has-own ks k)) (has_new (insert_key bytes_eq ks k) more)

-- a row's text stands at the row's number
pub numbered : (ks texts : List (List ℕ)) (i : ℕ) → i < length texts → All (Has ks) texts
    → slice_get ks (slice_index (map (number_in ks) texts) i) ≡ Some (get_or texts i [])
numbered ks texts i lt all = ap (slice_get ks) (get_or-map (number_in ks) texts i [] 0 lt) ∙ at_number (get_or texts i []) ks (all i [] lt)

-- what each file adds is there
pub has_all : (f : FileContent → List (List ℕ)) (ks : List (List ℕ)) (files : List FileContent)
    → All (λ file. All (Has (fold (λ seen file. with_new seen (f file)) ks files)) (f file)) files
has_all f ks [] = All-nil _
has_all f ks (file ∷ files) = All-cons (λ (other : FileContent). All (Has (fold (λ seen file. with_new seen (f file)) ks (file ∷ files))) (f other)) file files
    (λ k d lt. has-files _ f (with_new ks (f file)) files (has_new ks (f file) k d lt))
    (has_all f (with_new ks (f file)) files)
