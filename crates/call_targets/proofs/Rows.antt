-- The row of what look-ups found.
use Rattle.std.proofs.Common.{◌≡◌, ℕ, ◌+◌, ◌<◌, Bool, true, List, [], ◌∷◌, ◌++◌, length, map, sym, ap, ap₂, ◌∙◌, eqb, take, get_or, Contains, Some, IfSome, subst}
use Rattle.std.specs.Prelude.{◌↔◌, filter_map, is_none}
use Rattle.std.specs.List.{All, dedup, list_any}
use Rattle.std.specs.List.Sorted.{IsPermutation, IsSorted}
use Rattle.std.specs.Ordering.{nat_cmp}
use Rattle.std.proofs.lemmas.List.{take_more, append-nil}
use Rattle.std.proofs.lemmas.List.Elements.{All-contains, filter_map-append}
use Rattle.std.proofs.lemmas.List.Kept.{Contains-dedup_nat, Contains-from_dedup}
use Rattle.std.proofs.lemmas.Map.Keys.{IsStrictlyIncreasing-dedup}
use Rattle.app_model.specs.CallGraph.{TargetParts}
use Rattle.app_model.specs.Targets.{finds, method_no, row_of}
use Rattle.class_graph.specs.Answers.{found_number}
use Rattle.class_graph.specs.declared.graph.Found.{Found}
use Rattle.class_graph.specs.declared.graph.Found.TheVariants as variant
use Rattle.ns_base.specs.declared.rows.MethodNo.{MethodNo}
use Rattle.call_targets.proofs.Members.{any_mapped, finds_in, from_map, from_some, in_map, in_some, moved}
use Rattle.call_targets.proofs.Rising.{rising_filter}

-- ---- one more look-up
found_next : (found : List Found) (i : ℕ) (d : Found) → i < length found → filter_map found_number (take (i + 1) found) ≡ filter_map found_number (take i found) ++ filter_map found_number (get_or found i d ∷ [])
found_next found i d lt = ap (filter_map found_number) (take_more found i d lt) ∙ filter_map-append found_number (take i found) (get_or found i d ∷ [])

pub found_app : (found : List Found) (i : ℕ) (m : MethodNo) (d : Found) → i < length found → get_or found i d ≡ variant.App m → filter_map found_number (take (i + 1) found) ≡ filter_map found_number (take i found) ++ m.0 ∷ []
found_app found i m d lt e = found_next found i d lt ∙ ap (λ (f : Found). filter_map found_number (take i found) ++ filter_map found_number (f ∷ [])) e

pub found_outside : (found : List Found) (i : ℕ) (d : Found) → i < length found → get_or found i d ≡ variant.Outside → filter_map found_number (take (i + 1) found) ≡ filter_map found_number (take i found)
found_outside found i d lt e = found_next found i d lt ∙ ap (λ (f : Found). filter_map found_number (take i found) ++ filter_map found_number (f ∷ [])) e ∙ append-nil (filter_map found_number (take i found))

-- ---- the row
module _ (methods : ℕ) (found : List Found) (sorted : List ℕ) (perm : IsPermutation (filter_map found_number found) sorted) (all : All (λ (f : Found). IfSome (found_number f) (λ m. m < methods)) found) where
  has_found : (k : ℕ) → Contains (dedup eqb sorted) k ↔ (finds (map found_number found) k ≡ true)
  has_found k = (
    λ c. let f = from_some found_number found k ((moved (filter_map found_number found) sorted perm k).1 (Contains-from_dedup eqb sorted k c)) in
        (finds_in (map found_number found) k).1 (subst (Contains (map found_number found)) f.2 (in_map found_number found f.0 f.1)),
    λ e. let f = from_map found_number found (Some k) ((finds_in (map found_number found) k).0 e) in
        Contains-dedup_nat sorted k ((moved (filter_map found_number found) sorted perm k).0 (in_some found_number found f.0 k f.1 f.2)),
  )

  found_below : (k : ℕ) → finds (map found_number found) k ≡ true → k < methods
  found_below k e =
      let f = from_map found_number found (Some k) ((finds_in (map found_number found) k).0 e) in
      subst (λ o. IfSome o (λ m. m < methods)) f.2 (All-contains (λ (f : Found). IfSome (found_number f) (λ m. m < methods)) found f.0 all f.1)

  pub row_made : IsSorted nat_cmp sorted → ◌≡◌ {A = TargetParts} (record { callees = map method_no (dedup eqb sorted); outside = list_any (λ (f : Found). is_none (found_number f)) found }) (row_of methods (map found_number found))
  unfolding row_of
  row_made order = ap₂ (λ (ns : List ℕ) (b : Bool). let row : TargetParts = record { callees = map method_no ns; outside = b } in row)
      (rising_filter (finds (map found_number found)) methods (dedup eqb sorted) (IsStrictlyIncreasing-dedup sorted order) has_found found_below)
      (sym (any_mapped is_none found_number found))
