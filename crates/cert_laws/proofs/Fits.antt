-- The rows of the least solution for a lock field fit the subject.
use Rattle.std.proofs.Common.{◌≡◌, ◌<◌, ◌^◌, ℕ, Bool, true, false, cond, List, [], ◌∷◌, get_or, length, Option, Some, None, refl, subst, ⊎_elim, inl, inr, arith}
use Rattle.std.specs.Prelude.{nat_lt, slice_get}
use Rattle.std.specs.List.{AllByRecursion, list_all}
use Rattle.std.proofs.lemmas.Bool.{ltb-true}
use Rattle.std.proofs.lemmas.List.Elements.{All-from_recursion}
use Rattle.std.proofs.lemmas.List.FromFn.{length-map-range_with_len}
use Rattle.std.proofs.lemmas.List.Sums.{AllPass-from_list_all}
use Rattle.std.proofs.lemmas.Option.{slice_get_cases, slice_get_within, get_or_from_slice_get}
use Rattle.app_model.specs.Components.{ComponentParts, edge_at, edge_of, edges_of}
use Rattle.app_model.specs.Facts.{Fact, View, At, Ret, Exc}
use Rattle.app_model.specs.Shown.{lock_text}
use Rattle.app_model.specs.Subject.{SubjectParts, is_reached, slot_count}
use Rattle.app_model.specs.Words.{code_len}
use Rattle.app_model.specs.declared.component.Edge.{Edge}
use Rattle.app_model.specs.declared.component.Kind.{Kind}
use Rattle.app_model.specs.declared.component.Kind.TheVariants.{Activity, Service, Receiver, Runnable}
use Rattle.certificate.specs.Solved.{body_row, code_bodies, component_views, has_status, mask_of, method_bodies, part_of, view_row}
use Rattle.certificate.proofs.Bits.{some_status}
use Rattle.certificate.proofs.Rising.{all_groups, all_rows}
use Rattle.cert_line.specs.Lines.{has_fact}
use Rattle.flow_model.specs.Derived.{Derived, IsLeast, Set, all_done, by_rule, is_given}
use Rattle.flow_model.specs.Policy.{none_given}
use Rattle.flow_model.specs.Rules.{Between, C1, C2, C3, C3_leaves, Carries, I1, I1_return, I2, I3, I3_leaves, Inside, Rules, Starts, V1, V2, V3, V4, V5}
use Rattle.flow_model.specs.Subject.{status_masks}
use Rattle.cert_facts.specs.Shape.{FitsBody, FitsLock, FitsView, state_count, states_at, states_of}

-- ---- edges lead to states of the lifecycle
edges_end : (kind : Kind) → list_all (λ edge. nat_lt edge.to (state_count kind)) (edges_of kind) ≡ true
edges_end Activity = refl
edges_end Service = refl
edges_end Receiver = refl
edges_end Runnable = refl

kind_edge : (kind : Kind) (e : ℕ) (edge : Edge) → slice_get (edges_of kind) e ≡ Some edge → edge.to < state_count kind
kind_edge kind e edge is =
    let passes : nat_lt (get_or (edges_of kind) e edge).to (state_count kind) ≡ true =
    AllPass-from_list_all (λ (a : Edge). nat_lt a.to (state_count kind)) (edges_of kind) (edges_end kind) e edge (slice_get_within (edges_of kind) e edge is) in
    let own : nat_lt edge.to (state_count kind) ≡ true = rw (get_or_from_slice_get (edges_of kind) e edge edge is) at passes in
    ltb-true edge.to (state_count kind) own

row_edge : (row : Option ComponentParts) (e : ℕ) (edge : Edge) → edge_of row e ≡ Some edge → edge.to < states_of row
row_edge None e edge is = absurd (cc)
row_edge (Some component) e edge is = kind_edge component.kind e edge is

edge_end : (list : List ComponentParts) (c e : ℕ) (edge : Edge) → edge_at list c e ≡ Some edge → edge.to < states_at list c
unfolding edge_at states_at
edge_end list c e edge is = row_edge (slice_get list c) e edge is

some_state : (kind : Kind) → 0 < state_count kind
some_state Activity = omega arith
some_state Service = omega arith
some_state Receiver = omega arith
some_state Runnable = omega arith

row_state : (row : Option ComponentParts) (component : ComponentParts) → row ≡ Some component → 0 < states_of row
row_state None component is = absurd (cc)
row_state (Some other) component is = some_state other.kind

first_state : (list : List ComponentParts) (c : ℕ) → c < length list → 0 < states_at list c
unfolding states_at
first_state list c lt =
    ⊎_elim (λ found. row_state (slice_get list c) found.0 found.2) (λ past. absurd (let le = past.0 in omega arith)) ((slice_get_cases list c).1)

-- ---- so what is derived is of a state of the lifecycle
module _ (x : SubjectParts) (l : ℕ) where
  abbrev FitsState : Fact → Type 0
  FitsState (View c q s) = q < states_at x.list c
  FitsState (At m e i s) = Unit {0}
  FitsState (Ret m e s) = Unit {0}
  FitsState (Exc m e s) = Unit {0}

  abbrev AllFit : List Fact → Type 0
  AllFit [] = Unit {0}
  AllFit (f ∷ fs) = FitsState f × AllFit fs

  inside_fits : {needs : List Fact} {f : Fact} → Inside x l (status_masks x l) needs f → FitsState f
  inside_fits (I1 k own to may) = tt
  inside_fits (I1_return back) = tt
  inside_fits (I2 k own to may) = tt
  inside_fits (I3 k to may) = tt
  inside_fits (I3_leaves out may) = tt
  inside_fits (C1 n among passes) = tt
  inside_fits (C2 n among passes to) = tt
  inside_fits (C3 n k among passes to) = tt
  inside_fits (C3_leaves n among passes out) = tt

  starts_fit : {needs : List Fact} {f : Fact} → Starts x l needs f → FitsState f
  starts_fit (V3 e there from callback) = tt

  between_fits : {needs : List Fact} {f : Fact} → Between x (Carries x l) needs f → AllFit needs → FitsState f
  between_fits (V1 {c = c} below) fit = first_state x.list c below
  between_fits (V2 {c = c} {edge = edge} e there from to none carried) fit = subst (λ (q : ℕ). q < states_at x.list c) to (edge_end x.list c e edge there)
  between_fits (V4 {c = c} {edge = edge} e m there from to callback carried) fit = subst (λ (q : ℕ). q < states_at x.list c) to (edge_end x.list c e edge there)
  between_fits (V5 e other there from carried) fit = fit.0

  rule_fits : {needs : List Fact} {f : Fact} → Rules x l needs f → AllFit needs → FitsState f
  rule_fits (inl (inl i)) fit = inside_fits i
  rule_fits (inl (inr s)) fit = starts_fit s
  rule_fits (inr b) fit = between_fits b fit

  all_fit : {fs : List Fact} → Derived (Rules x l) none_given fs → AllFit fs
  all_fit all_done = tt
  all_fit (is_given given d) = absurd (cc)
  all_fit (by_rule r needs d) = (rule_fits r (all_fit needs), all_fit d)

  -- ---- rows
  module _ (set : Set) (least : IsLeast (Rules x l) none_given set) where
    views_fit : (c : ℕ) → AllByRecursion (FitsView x) (component_views set c)
    unfolding component_views
    views_fit c =
        all_rows (FitsView x) has_status (view_row set c) 8
        (λ q q8 some. (let found = some_status (λ s. set (View c q s)) (ltb-true _ _ some) in (all_fit (least.sound (View c q found.0) found.1)).0)) 8 0 (omega arith)

    code_fits : (m : ℕ) → is_reached x m ≡ true → AllByRecursion (FitsBody x) (code_bodies set m (code_len x.app m))
    unfolding code_bodies
    code_fits m reached =
        all_rows (FitsBody x) has_fact (body_row set m (code_len x.app m)) 8
        (λ e e8 some. record { status = e8; reached = reached; code = length-map-range_with_len (λ i. mask_of (λ s. set (At m e i s))) 0 (code_len x.app m) }) 8 0 (omega arith)

    reached_fit : (m : ℕ) (b : Bool) → is_reached x m ≡ b → AllByRecursion (FitsBody x) (cond b (code_bodies set m (code_len x.app m)) [])
    reached_fit m true is = code_fits m is
    reached_fit m false is = tt

    bodies_fit : (m : ℕ) → AllByRecursion (FitsBody x) (method_bodies x set m)
    unfolding method_bodies
    bodies_fit m = reached_fit m (is_reached x m) refl

    pub part_fits : l < slot_count x → length (lock_text x.app l) < 2 ^ 32 → FitsLock x l (part_of x l set)
    part_fits slot low = record {
      slot = slot;
      name = (low, refl);
      views = All-from_recursion (FitsView x) _ (all_groups (FitsView x) (component_views set) (length x.list) (λ c lt. views_fit c) (length x.list) 0 (omega arith));
      bodies = All-from_recursion (FitsBody x) _ (all_groups (FitsBody x) (method_bodies x set) (length x.app.methods) (λ m lt. bodies_fit m) (length x.app.methods) 0 (omega arith));
    }
