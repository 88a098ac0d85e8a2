-- Lists by their places.
use Rattle.std.proofs.Common.{◌≡◌, ℕ, List, [], ◌∷◌, ◌++◌, length, Some, ◌⊎◌, inl, inr, ⊎_elim, sym, ap, ◌∙◌, arith, length-append, slice_get, get_or}
use Rattle.std.proofs.lemmas.Bool.{cases_lt}
use Rattle.std.proofs.lemmas.List.{same_lists, get_or_append_left}
use Rattle.std.proofs.lemmas.Option.{get_or_from_slice_get, slice_get-get_or, slice_get_within}
use Rattle.std.proofs.Math.Seq.{get_or-append_seam}

-- lists that agree at each place
pub same_places : {X : Type 0} (xs ys : List X) → length xs ≡ length ys → ((i : ℕ) (x y : X) → slice_get xs i ≡ Some x → slice_get ys i ≡ Some y → x ≡ y) → xs ≡ ys
same_places xs ys len each = same_lists xs ys len
    (λ k d lt. each k (get_or xs k d) (get_or ys k d) (slice_get-get_or xs k d lt) (slice_get-get_or ys k d (omega (arith, len))))

-- a place of a list that grew
pub pushed : {X : Type 0} (xs : List X) (x : X) (i : ℕ) (y : X) → slice_get (xs ++ x ∷ []) i ≡ Some y → (slice_get xs i ≡ Some y) ⊎ ((i ≡ length xs) × (y ≡ x))
pushed xs x i y e =
    let here = get_or_from_slice_get (xs ++ x ∷ []) i y y e in
    ⊎_elim (λ lt. inl (slice_get-get_or xs i y lt ∙ ap Some (sym (get_or_append_left xs (x ∷ []) y i lt) ∙ here)))
    (λ ge. let at : i ≡ length xs = omega (arith, length-append xs (x ∷ []), slice_get_within (xs ++ x ∷ []) i y e) in
    inr (at, sym here ∙ ap (λ k. get_or (xs ++ x ∷ []) k y) at ∙ get_or-append_seam xs x [] y)) (cases_lt i (length xs))
