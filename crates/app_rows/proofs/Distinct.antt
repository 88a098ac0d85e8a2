-- Lists without repeats, seen through their items.
use Rattle.std.proofs.Common.{◌≡◌, ℕ, true, false, cond, List, [], ◌∷◌, ◌++◌, ◌||◌, ◌+◌, length, map, not, Option, Some, None, position, unwrap_or, bytes_eq, refl, sym, ap, ◌∙◌, ltb, if◌then◌else◌}
use Rattle.std.proofs.lemmas.List.{length-map}
use Rattle.std.specs.List.{list_any, position_or_len}
use Rattle.indexmap.specs.IndexSet.{insert_key}
use Rattle.app_rows.specs.Numbers.{number_in}

module _ {K : Type 0} (items : K → List ℕ) (text : List ℕ) where
  prefix_len-items : (ks : List K) → position_or_len (bytes_eq text) (map items ks) ≡ position_or_len (λ k. bytes_eq text (items k)) ks
  prefix_len-items [] = refl
  prefix_len-items (k ∷ ks) = ap (λ n. cond (not (bytes_eq text (items k))) (1 + n) 0) (prefix_len-items ks)

  -- the place of a text
  pub position-items : (ks : List K) → position (bytes_eq text) (map items ks) ≡ position (λ k. bytes_eq text (items k)) ks
  position-items ks = ap (λ n. cond (ltb n (length (map items ks))) (Some n) None) (prefix_len-items ks)
      ∙ ap (λ n. cond (ltb (position_or_len (λ k. bytes_eq text (items k)) ks) n) (Some (position_or_len (λ k. bytes_eq text (items k)) ks)) None) (length-map ks items)

  -- its number
  pub number-items : (ks : List K) (seen : List (List ℕ)) (place : Option ℕ) → seen ≡ map items ks → place ≡ position (λ k. bytes_eq text (items k)) ks
      → unwrap_or place 0 ≡ number_in seen text
  number-items ks seen place view at = ap (λ p. unwrap_or p 0) (at ∙ sym (position-items ks)) ∙ ap (λ l. number_in l text) (sym view)

  -- whether it is there
  pub any-items : (ks : List K) → list_any (bytes_eq text) (map items ks) ≡ list_any (λ k. bytes_eq text (items k)) ks
  any-items [] = refl
  any-items (k ∷ ks) = ap (λ b. bytes_eq text (items k) || b) (any-items ks)

  -- a text that is there is not put again
  pub add-present : (ks : List K) (seen : List (List ℕ)) → seen ≡ map items ks → list_any (λ k. bytes_eq text (items k)) ks ≡ true → seen ≡ insert_key bytes_eq seen text
  add-present ks seen view there =
      sym (ap (λ b. if b then seen else seen ++ text ∷ []) (ap (list_any (bytes_eq text)) view ∙ any-items ks ∙ there))

  map-push : (ks : List K) (k : K) → map items (ks ++ k ∷ []) ≡ map items ks ++ items k ∷ []
  map-push [] k = refl
  map-push (x ∷ ks) k = ap (λ rest. items x ∷ rest) (map-push ks k)

  -- one that is not goes last
  pub add-absent : (ks new : List K) (seen : List (List ℕ)) (k : K) → seen ≡ map items ks → items k ≡ text → list_any (λ k. bytes_eq text (items k)) ks ≡ false
      → new ≡ (if list_any (λ x. bytes_eq (items k) (items x)) ks then ks else ks ++ k ∷ []) → map items new ≡ insert_key bytes_eq seen text
  add-absent ks new seen k view same none put =
      ap (map items) (put ∙ ap (λ b. if b then ks else ks ++ k ∷ []) (ap (λ t. list_any (λ x. bytes_eq t (items x)) ks) same ∙ none))
      ∙ map-push ks k
      ∙ ap (λ t. map items ks ++ t ∷ []) same
      ∙ ap (λ l. l ++ text ∷ []) (sym view)
      ∙ sym (ap (λ b. if b then seen else seen ++ text ∷ []) (ap (list_any (bytes_eq text)) view ∙ any-items ks ∙ none))
