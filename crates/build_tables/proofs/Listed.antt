-- Lists without repeats, seen through their items.
use Rattle.std.proofs.Common.{◌≡◌, ℕ, suc, zero, Bool, true, false, cond, List, [], ◌∷◌, ◌++◌, ◌||◌, ◌+◌, map, take, not, bytes_eq, refl, sym, ap, ◌∙◌, if◌then◌else◌}
use Rattle.std.specs.List.{list_any, position_or_len}
use Rattle.indexmap.specs.IndexSet.{insert_key}

module _ {K : Type 0} (items : K → List ℕ) where
  pub place-items : (text : List ℕ) (ks : List K) → position_or_len (bytes_eq text) (map items ks) ≡ position_or_len (λ k. bytes_eq text (items k)) ks
  place-items text [] = refl
  place-items text (k ∷ ks) = ap (λ n. cond (not (bytes_eq text (items k))) (1 + n) 0) (place-items text ks)

  any-items : (text : List ℕ) (ks : List K) → list_any (bytes_eq text) (map items ks) ≡ list_any (λ k. bytes_eq text (items k)) ks
  any-items text [] = refl
  any-items text (k ∷ ks) = ap (λ b. bytes_eq text (items k) || b) (any-items text ks)

  map-push : (ks : List K) (k : K) → map items (ks ++ k ∷ []) ≡ map items ks ++ items k ∷ []
  map-push [] k = refl
  map-push (x ∷ ks) k = ap (λ rest. items x ∷ rest) (map-push ks k)

  map-if : (b : Bool) (ks : List K) (k : K) → map items (if b then ks else ks ++ k ∷ []) ≡ (if b then map items ks else map items ks ++ items k ∷ [])
  map-if true ks k = refl
  map-if false ks k = map-push ks k

  pub insert-items : (ks : List K) (k : K) → map items (insert_key (λ a b. bytes_eq (items a) (items b)) ks k) ≡ insert_key bytes_eq (map items ks) (items k)
  insert-items ks k = map-if (list_any (λ x. bytes_eq (items k) (items x)) ks) ks k
      ∙ ap (λ b. if b then map items ks else map items ks ++ items k ∷ []) (sym (any-items (items k) ks))

  pub take-items : (n : ℕ) (ks : List K) → map items (take n ks) ≡ take n (map items ks)
  take-items zero ks = refl
  take-items (suc n) [] = refl
  take-items (suc n) (k ∷ ks) = ap (λ rest. items k ∷ rest) (take-items n ks)
