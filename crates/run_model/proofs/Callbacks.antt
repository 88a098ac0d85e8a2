-- The start of a callback, and its end.
use Rattle.std.proofs.Common.{◌≡◌, ℕ, zero, suc, ◌+◌, ◌<◌, Bool, true, false, if◌then◌else◌, List, [], ◌∷◌, length, Option, Some, None, refl, sym, ap, ◌∙◌, inr, ⊎_elim, arith, subst, subst₂}
use Rattle.std.specs.Prelude.{slice_get, slice_index, slice_set as set_at, ◌==◌}
use Rattle.std.proofs.lemmas.Bool.{cases_Bool, cases_eq, eqb-true, false_from_ne_true}
use Rattle.std.proofs.lemmas.List.{get_or-set_same, get_or-set_other, length-set}
use Rattle.app_model.specs.declared.component.Edge.{Edge}
use Rattle.app_model.specs.Components.{ComponentParts, edges_of, edge_of, edge_at, callback_at, exits_at}
use Rattle.flow_model.specs.Derived.{Set, HasAll, IsClosed}
use Rattle.act_model.specs.Entries.{callback_row}
use Rattle.app_model.specs.Facts.{Fact, View, At}
use Rattle.flow_model.specs.Policy.{MeetsPolicy}
use Rattle.app_model.specs.Masks.{in_mask, is_held}
use Rattle.flow_model.specs.Rules.{Carries, Inner, Between, V2, V3, V4, V5, by_method, outside, clears, entered}
use Rattle.flow_model.specs.Status.{reset}
use Rattle.app_model.specs.Subject.{SubjectParts, answers_at, row_at, slot_count}
use Rattle.flow_model.specs.Subject.{status_masks}
use Rattle.run_model.specs.Heaps.{Value, Heap, status, with_cleared, cleared_cells, is_lost, counter_at, cell, status_of}
use Rattle.run_model.specs.Frames.{Callback, Running}
use Rattle.run_model.specs.Calls.{entered_frame, entry_values}
use Rattle.run_model.specs.Machine.{edge_starts, component_starts, starts, begins, method_starts, parameter_words, this_of}
use Rattle.run_model.specs.Choices.{Empty, chosen}
use Rattle.app_model.specs.declared.rows.MethodRow.{MethodRow}
use Rattle.run_model.specs.Relation.{AreTagged, AreViews, IsCallback, IsEnded, IsHeap, IsIdle, IsInside}
use Rattle.run_model.specs.Soundness.{ExitsWell}
use Rattle.run_model.specs.Tagged.{IsTagged}
use Rattle.flow_model.proofs.TestLaws.{none_some}
use Rattle.run_model.proofs.Members.{EachWay, each_map, each_then, way_if}
use Rattle.run_model.proofs.Rows.{reset_ok}
use Rattle.run_model.proofs.Heaps.{emptied_status, kept_status, held_above, status_is, cleared_cell, uncleared_cell, cleared_heap}
use Rattle.run_model.proofs.Registers.{tagged_under}
use Rattle.run_model.proofs.Entries.{AreFree, entry_ok, no_entry_ok, parameters_free}

-- an edge is of a component that is there
component_in : (list : List ComponentParts) (c e : ℕ) (edge : Edge) → edge_of (slice_get list c) e ≡ Some edge → c < length list
component_in [] c e edge is = absurd (none_some edge None refl is)
component_in (x ∷ list) zero e edge is = omega arith
component_in (x ∷ list) (suc c) e edge is = omega (arith, component_in list c e edge is)

pub component_there : (list : List ComponentParts) (c e : ℕ) (edge : Edge) → edge_at list c e ≡ Some edge → c < length list
unfolding edge_at
component_there list c e edge is = component_in list c e edge is

-- ---- the status after an edge's clearing
if_true : (b : Bool) (s t : ℕ) → b ≡ true → (if b then s else t) ≡ s
if_true true s t e = refl
if_true false s t e = cc

if_false : (b : Bool) (s t : ℕ) → b ≡ false → (if b then s else t) ≡ t
if_false true s t e = cc
if_false false s t e = refl

entered_status : (x : SubjectParts) (own c : ℕ) (edge : Edge) (n : ℕ) (h : Heap) → IsHeap n h → status (with_cleared h (clears x c edge)) own ≡ entered x own c edge (status h own)
entered_status x own c edge n h ok =
    ⊎_elim
    (λ yes_cleared.
    emptied_status h (cleared_cells (clears x c edge) 0 h.cells) own (cleared_cell h (clears x c edge) own yes_cleared)
    ∙ ap (λ b. status_of b None) (held_above h own n ok)
    ∙ sym (reset_ok (is_lost h own) (counter_at h (cell h own)))
    ∙ ap reset (sym (status_is h own))
    ∙ sym (if_true (clears x c edge own) (reset (status h own)) (status h own) yes_cleared))
    (λ not_cleared.
    kept_status h (cleared_cells (clears x c edge) 0 h.cells) own (uncleared_cell h (clears x c edge) own not_cleared)
    ∙ sym (if_false (clears x c edge own) (reset (status h own)) (status h own) not_cleared))
    (cases_Bool (clears x c edge own))

-- ---- the starts of callbacks
module _ (x : SubjectParts) (own : ℕ) (set : Set) (tg : IsTagged x) (cl : IsClosed (Inner x own (status_masks x own)) set) (states : List ℕ) (h : Heap) (idle : IsIdle x own set states h) where
  begin_one : (c e : ℕ) (edge : Edge) (m : ℕ) → edge_at x.list c e ≡ Some edge → edge.from ≡ slice_index states c → callback_at x.list c edge.callback ≡ Some m → (values : List Value) → AreTagged (callback_row x.app (slice_get x.app.methods m)) values (length h.locks) (length h.locks) (with_cleared h (clears x c edge))
      → IsInside x own set (Running (record { states = states; component = c; edge = e }) (with_cleared h (clears x c edge)) (entered_frame m values ∷ []))
  begin_one c e edge m there from method values tagged =
      let lt = component_there x.list c e edge there in
      let view = idle.views.each c lt in
      let entry = cl.by _ _ (inr (V3 e there from method)) (view, tt) in
      let now = entered_status x own c edge (slot_count x) h idle.heap in
      record {
        edge = edge;
        root = m;
        s0 = status h own;
        callback = record { views = idle.views; component = lt; there = there; from = from };
        method = method;
        heap = cleared_heap h (clears x c edge) (slot_count x) idle.heap;
        stack = record {
          e = entered x own c edge (status h own);
          lo = length h.locks;
          from = omega arith;
          reached = tg.callbacks c edge.callback m method;
          at = subst (λ s. set (At m (entered x own c edge (status h own)) 0 s) ≡ true) (sym now) entry;
          registers = tagged_under _ values (length h.locks) (length h.locks) (with_cleared h (clears x c edge)) tagged (row_at x m 0) (tg.entries c edge.callback m method);
          below = (refl, refl);
        };
      }

  begins_ok : (c e : ℕ) (edge : Edge) → edge_at x.list c e ≡ Some edge → edge.from ≡ slice_index states c → (o : Option ℕ) → callback_at x.list c edge.callback ≡ o → EachWay (IsInside x own set) (begins x states h c e edge o)
  begins_ok c e edge there from None none =
      let lt = component_there x.list c e edge there in (
        record {
          before = record { states = states; component = c; edge = e };
          edge = edge;
          s0 = status h own;
          needs = [];
          callback = record { views = idle.views; component = lt; there = there; from = from };
          same_component = refl;
          same_edge = refl;
          states = refl;
          heap = cleared_heap h (clears x c edge) (slot_count x) idle.heap;
          carried = outside none (entered_status x own c edge (slot_count x) h idle.heap);
          has = tt;
        },
        tt,
      )
  begins_ok c e edge there from (Some m) method = by (slice_get x.app.methods m) refl
    where
      by : (o : Option MethodRow) → slice_get x.app.methods m ≡ o
          → EachWay (IsInside x own set) (method_starts x (record { states = states; component = c; edge = e }) (with_cleared h (clears x c edge)) m (this_of x.app (slice_get x.list c)) o)
      by None is = (begin_one c e edge m there from method [] (rw is (no_entry_ok (length h.locks) (length h.locks) (with_cleared h (clears x c edge)) x.app)), tt)
      by (Some row) is =
          each_map (AreFree (length (parameter_words x.app (slice_get x.app.protos row.proto.0)))) (IsInside x own set) _
          (λ words free. begin_one c e edge m there from method _
          (subst (λ (o : Option MethodRow). AreTagged (callback_row x.app o) (entry_values (Some row) (this_of x.app (slice_get x.list c) ∷ words)) (length h.locks) (length h.locks) (with_cleared h (clears x c edge))) (sym is)
          (entry_ok (length h.locks) (length h.locks) (with_cleared h (clears x c edge)) x.app (slice_get x.list c) row words free)))
          (chosen (parameter_words x.app (slice_get x.app.protos row.proto.0))) (parameters_free x.app (slice_get x.app.protos row.proto.0))

  edge_starts_ok : (c e : ℕ) (edges : List Edge) → ((i : ℕ) (edge : Edge) → slice_get edges i ≡ Some edge → edge_at x.list c (e + i) ≡ Some edge) → EachWay (IsInside x own set) (edge_starts x states h c e edges)
  edge_starts_ok c e [] at = tt
  edge_starts_ok c e (edge ∷ edges) at =
      let here : edge_at x.list c e ≡ Some edge = ap (edge_at x.list c) (let z : e ≡ e + 0 = omega arith in z) ∙ at 0 edge refl in
      let more : (i : ℕ) (y : Edge) → slice_get edges i ≡ Some y → edge_at x.list c (suc e + i) ≡ Some y = λ i y is. ap (edge_at x.list c) (let z : suc e + i ≡ e + suc i = omega arith in z) ∙ at (suc i) y is in
      each_then (IsInside x own set) (if edge.from == slice_index states c then begins x states h c e edge (callback_at x.list c edge.callback) else Empty) (edge_starts x states h c (suc e) edges)
      (way_if (IsInside x own set) (edge.from == slice_index states c) (begins x states h c e edge (callback_at x.list c edge.callback)) Empty (λ same. begins_ok c e edge here (eqb-true edge.from (slice_index states c) same) (callback_at x.list c edge.callback) refl) (λ _. tt))
      (edge_starts_ok c (suc e) edges more)

  component_starts_ok : (c : ℕ) (list : List ComponentParts) → ((i : ℕ) → slice_get list i ≡ slice_get x.list (c + i)) → EachWay (IsInside x own set) (component_starts x states h c list)
  unfolding edge_at
  component_starts_ok c [] at = tt
  component_starts_ok c (component ∷ list) at =
      let here : Some component ≡ slice_get x.list c = at 0 ∙ ap (slice_get x.list) (let z : c + 0 ≡ c = omega arith in z) in
      let more : (i : ℕ) → slice_get list i ≡ slice_get x.list (suc c + i) = λ i. at (suc i) ∙ ap (slice_get x.list) (let z : c + suc i ≡ suc c + i = omega arith in z) in
      each_then (IsInside x own set) (edge_starts x states h c 0 (edges_of component.kind)) (component_starts x states h (suc c) list)
      (edge_starts_ok c 0 (edges_of component.kind) (λ i edge is. ap (λ o. edge_of o (0 + i)) (sym here) ∙ ap (slice_get (edges_of component.kind)) (let z : 0 + i ≡ i = omega arith in z) ∙ is))
      (component_starts_ok (suc c) list more)

  pub idle_ok : EachWay (IsInside x own set) (starts x states h)
  idle_ok = component_starts_ok 0 x.list (λ i. ap (slice_get x.list) (let z : i ≡ 0 + i = omega arith in z))

-- ---- the end of a callback
module _ (x : SubjectParts) (own : ℕ) (set : Set) where
  -- what its component may be in
  moved_view : IsClosed (Between x (Carries x own)) set → (before : Callback) (edge : Edge) (s0 t : ℕ) (needs : List Fact) → IsCallback x set before edge s0 → Carries x own before.component edge s0 t needs → HasAll set needs → set (View before.component edge.to t) ≡ true
  moved_view cl before edge s0 t needs cb (outside none now) has =
      cl.by _ _ (V2 before.edge cb.there cb.from refl none (outside none now)) (cb.views.each before.component cb.component, has)
  moved_view cl before edge s0 t needs cb (by_method m is) has =
      cl.by _ _ (V4 before.edge m cb.there cb.from refl is (by_method m is)) (cb.views.each before.component cb.component, has)

  -- and what each component may be in
  pub end_views : IsClosed (Between x (Carries x own)) set → (at : Callback) (h : Heap) → IsEnded x own set at h → AreViews x set at.states (status h own)
  end_views cl at h d =
      let before = d.before in
      let cb = d.callback in
      let states = set_at before.states before.component d.edge.to in
      let within : before.component < length before.states = omega (arith, cb.views.count, cb.component) in
      let own_view = cb.views.each before.component cb.component in
      rw d.states (record {
        count = length-set before.states before.component d.edge.to ∙ cb.views.count;
        each = λ c lt.
            ⊎_elim
            (λ same.
            (let to : slice_index states c ≡ d.edge.to = ap (slice_index states) same ∙ get_or-set_same before.states before.component d.edge.to 0 within in
            rw (to, same) (moved_view cl before d.edge d.s0 (status h own) d.needs cb d.carried d.has)))
            (λ other.
            (let stays : slice_index states c ≡ slice_index before.states c = get_or-set_other before.states before.component c d.edge.to 0 other in
            rw stays (cl.by _ _ (V5 before.edge (λ same. other (sym same)) cb.there cb.from d.carried) (cb.views.each c lt, (own_view, d.has)))))
            (cases_eq c before.component);
      })

  -- an exit at a held status would be a violation
  pub exits_well : own < slot_count x → MeetsPolicy x own set → (at : Callback) (h : Heap) → IsEnded x own set at h → ExitsWell x own at h
  exits_well lt mp at h d other is yes_exit answers =
      let before = d.before in
      let cb = d.callback in
      let here : edge_at x.list before.component before.edge ≡ Some other = subst₂ (λ c e. edge_at x.list c e ≡ Some other) (sym d.same_component) (sym d.same_edge) is in
      let exit : in_mask (exits_at x.list before.component) other.callback ≡ true = subst (λ c. in_mask (exits_at x.list c) other.callback ≡ true) (sym d.same_component) yes_exit in
      let there = cb.there in
      let alike : other ≡ d.edge = cc in
      false_from_ne_true (is_held (status h own)) (λ bad.
      mp before.component d.edge.callback (status h own)
      (record {
        state = slice_index before.states before.component;
        before = d.s0;
        number = before.edge;
        edge = d.edge;
        needs = d.needs;
        slot = lt;
        there = there;
        from = cb.from;
        callback = refl;
        carried = d.carried;
        holds = (cb.views.each before.component cb.component, d.has);
        exit = subst (λ (y : Edge). in_mask (exits_at x.list before.component) y.callback ≡ true) alike exit;
        held = bad;
        answers = subst (λ c. answers_at x c own ≡ true) (sym d.same_component) answers;
      }))
