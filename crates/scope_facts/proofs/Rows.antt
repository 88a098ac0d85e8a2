-- Rows by place.
use Rattle.std.proofs.Common.{◌≡◌, ℕ, ◌+◌, ◌<◌, ◌++◌, ◌∷◌, [], List, length, get_or, sym, subst, ⊎_elim, arith, Some, slice_get}
use Rattle.std.proofs.lemmas.Bool.{cases_lt}
use Rattle.std.proofs.lemmas.List.{get_or_append_left}
use Rattle.std.proofs.lemmas.Option.{get_or_from_slice_get, slice_get_within}
use Rattle.std.proofs.Math.Seq.{get_or-append_seam}

-- one more row
pub row_more : {A : Type 0} (P : ℕ → A → Type 0) (rows now : List A) (n : ℕ) (row : A) → length rows ≡ n → now ≡ rows ++ row ∷ [] → ((k : ℕ) (d : A) → k < n → P k (get_or rows k d)) → P n row
    → (k : ℕ) (d : A) → k < n + 1 → P k (get_or now k d)
row_more P rows now n row len is before this k d low = subst (λ (xs : List _). P k (get_or xs k d)) (sym is) (⊎_elim
    (λ less. subst (P k) (sym (get_or_append_left rows (row ∷ []) d k (omega (arith, less, len)))) (before k d less))
    (λ le. (let same : length rows ≡ k = omega (arith, le, low, len) in
    let here : P (length rows) (get_or (rows ++ row ∷ []) (length rows) d) = subst (P (length rows)) (sym (get_or-append_seam rows row [] d)) (subst (λ (m : ℕ). P m row) (sym len) this) in
    subst (λ (m : ℕ). P m (get_or (rows ++ row ∷ []) m d)) same here))
    (cases_lt k n))

-- the row that is read
pub row_read : {A : Type 0} (P : ℕ → A → Type 0) (rows : List A) (n k : ℕ) (row : A) → length rows ≡ n → ((j : ℕ) (d : A) → j < n → P j (get_or rows j d)) → slice_get rows k ≡ Some row → P k row
row_read P rows n k row len each is =
    subst (P k) (get_or_from_slice_get rows k row row is) (each k row (let low = slice_get_within rows k row is in omega (arith, low, len)))
