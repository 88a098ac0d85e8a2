-- The rows of the least solution for a lock field have its facts, and no other.
use Rattle.std.proofs.Common.{◌≡◌, ◌<◌, ℕ, Bool, true, false, cond, List, [], ◌∷◌, length, refl, sym, ◌∙◌, subst, ⊎_elim, inl, inr, arith}
use Rattle.std.specs.Prelude.{◌&&◌, slice_index}
use Rattle.std.specs.List.{list_any}
use Rattle.std.proofs.Math.Path.{fun_ext}
use Rattle.std.proofs.lemmas.Bool.{and_parts, or_cases, cases_lt, cases_Bool, false≢true}
use Rattle.std.proofs.lemmas.List.{get_or_past}
use Rattle.std.proofs.lemmas.List.FromFn.{length-map-range_with_len}
use Rattle.app_model.specs.Facts.{Fact, View, At, Ret, Exc}
use Rattle.app_model.specs.Masks.{in_mask}
use Rattle.app_model.specs.Subject.{SubjectParts, IsSubject, is_reached}
use Rattle.app_model.specs.Words.{code_len}
use Rattle.cert_line.specs.Parts.{BodyParts}
use Rattle.cert_line.specs.declared.rows.ViewRow.{ViewRow}
use Rattle.certificate.specs.Solved.{BodyFact, body_row, mask_of, masks_of, part_of}
use Rattle.certificate.proofs.PartFacts.{view_only, views_are, body_only, bodies_are, mask_at}
use Rattle.flow_model.specs.Derived.{Derived, HasAll, IsLeast, by_rule, is_given}
use Rattle.flow_model.specs.Policy.{none_given}
use Rattle.flow_model.specs.Rules.{Between, C1, C2, C3, C3_leaves, Carries, I1, I1_return, I2, I3, I3_leaves, Inside, Rules, Starts, V1, V2, V3, V4, V5}
use Rattle.flow_model.specs.Subject.{status_masks}
use Rattle.flow_model.proofs.Laws.{in_closed}
use Rattle.flow_model.proofs.TestLaws.{bool_same}
use Rattle.solution.specs.Facts.{Facts, HasPlaces, holds, place_count}
use Rattle.solution.proofs.Bits.{has_true, mask_true}
use Rattle.solution.proofs.Facts.{at_place, view_place}
use Rattle.view_solver.proofs.Closed.{least_closed}
use Rattle.cert_facts.specs.Sets.{body_has, facts_of, is_of_entry, is_of_state, view_has}

-- a status that some row has
row_status : {R : Type 0} (tells : R → Bool) (mask : R → ℕ) (s : ℕ) (rows : List R) → list_any (λ row. tells row && in_mask (mask row) s) rows ≡ true → s < 8
row_status tells mask s [] h = absurd (cc)
row_status tells mask s (row ∷ rows) h =
    ⊎_elim (λ here. (mask_true (mask row) s (and_parts (tells row) _ here).1).0) (λ later. row_status tells mask s rows later) (or_cases (tells row && in_mask (mask row) s) _ h)

-- places of instructions are those of methods that are reached
placed : (b : Bool) (n i : ℕ) → i < cond b n 0 → (b ≡ true) × (i < n)
placed true n i lt = (refl, lt)
placed false n i lt = absurd (omega arith)

method_there : (x : SubjectParts) (m : ℕ) → IsSubject x → is_reached x m ≡ true → m < length x.app.methods
unfolding is_reached
method_there x m sound reached = ⊎_elim (λ lt. rw sound.reaches.methods at lt) (λ past. absurd (false≢true (sym (get_or_past x.reached m false past) ∙ reached))) (cases_lt m (length x.reached))

module _ (x : SubjectParts) (l : ℕ) (t : Facts) (sound : IsSubject x) (places : HasPlaces x t) (least : IsLeast (Rules x l) none_given (holds t)) where
  at_reached : (m e i s : ℕ) → holds t (At m e i s) ≡ true → (is_reached x m ≡ true) × (i < code_len x.app m)
  unfolding place_count
  at_reached m e i s h = placed (is_reached x m) (code_len x.app m) i (subst (λ (n : ℕ). i < n) (places.code m) (at_place t m e i s h))

  -- a method ends where it is reached
  abbrev EndsReached : Fact → Type 0
  EndsReached (View c q s) = Unit {0}
  EndsReached (At m e i s) = Unit {0}
  EndsReached (Ret m e s) = is_reached x m ≡ true
  EndsReached (Exc m e s) = is_reached x m ≡ true

  inside_ends : {needs : List Fact} {f : Fact} → Inside x l (status_masks x l) needs f → HasAll (holds t) needs → EndsReached f
  inside_ends (I1 k own to may) has = tt
  inside_ends (I1_return {m = m} {e = e} {i = i} {s = s} back) has = (at_reached m e i s has.0).0
  inside_ends (I2 k own to may) has = tt
  inside_ends (I3 k to may) has = tt
  inside_ends (I3_leaves {m = m} {e = e} {i = i} {s = s} out may) has = (at_reached m e i s has.0).0
  inside_ends (C1 n among passes) has = tt
  inside_ends (C2 n among passes to) has = tt
  inside_ends (C3 n k among passes to) has = tt
  inside_ends (C3_leaves {m = m} {e = e} {i = i} {s = s} n among passes out) has = (at_reached m e i s has.0).0

  starts_end : {needs : List Fact} {f : Fact} → Starts x l needs f → EndsReached f
  starts_end (V3 e there from callback) = tt

  between_end : {needs : List Fact} {f : Fact} → Between x (Carries x l) needs f → EndsReached f
  between_end (V1 below) = tt
  between_end (V2 e there from to none carried) = tt
  between_end (V4 e m there from to callback carried) = tt
  between_end (V5 e other there from carried) = tt

  rule_ends : {needs : List Fact} {f : Fact} → Rules x l needs f → HasAll (holds t) needs → EndsReached f
  rule_ends (inl (inl i)) has = inside_ends i has
  rule_ends (inl (inr s)) has = starts_end s
  rule_ends (inr b) has = between_end b

  derived_ends : (f : Fact) → Derived (Rules x l) none_given (f ∷ []) → EndsReached f
  derived_ends f (is_given given d) = absurd (cc)
  derived_ends f (by_rule r needs d) = rule_ends r (in_closed (Rules x l) none_given (holds t) (λ g given. absurd (cc)) (least_closed (Rules x l) none_given (holds t) least) needs)

  ends_reached : (f : Fact) → holds t f ≡ true → EndsReached f
  ends_reached f has = derived_ends f (least.sound f has)

  -- ---- of a component in a state
  view_range : (c q s : ℕ) → holds t (View c q s) ≡ true → (c < length x.list) × (q < 8) × (s < 8)
  unfolding holds
  view_range c q s h = let p = has_true _ q s h in (subst (λ (n : ℕ). c < n) places.views (view_place t c q s h), p.0, p.1)

  view_same : (c q s : ℕ) → view_has (part_of x l (holds t)).views c q s ≡ holds t (View c q s)
  view_same c q s =
      bool_same _ _
      (λ h. view_only (holds t) c q s (row_status {R = ViewRow} (is_of_state c q) (λ row. row.mask) s (part_of x l (holds t)).views h) (length x.list) h)
      (λ h. let r = view_range c q s h in views_are (holds t) c q s r.2 (length x.list) r.0 r.1 ∙ h)

  -- ---- of a method that was entered at a status
  body_same : (mask : BodyParts → ℕ) (fact : ℕ → Bool) (m e s : ℕ) → mask (body_row (holds t) m (code_len x.app m) e) ≡ mask_of fact
      → (fact s ≡ true → (is_reached x m ≡ true) × (e < 8) × (s < 8) × BodyFact (holds t) m (code_len x.app m) e s) → body_has mask (part_of x l (holds t)).bodies m e s ≡ fact s
  body_same mask fact m e s is told =
      bool_same _ _
      (λ h. body_only x (holds t) m e s (row_status {R = BodyParts} (is_of_entry m e) mask s (part_of x l (holds t)).bodies h) mask fact is (length x.app.methods) h)
      (λ h. let r = told h in bodies_are x (holds t) m e s r.2 mask fact is (length x.app.methods) (method_there x m sound r.0) r.0 r.1 (λ again. (told again).3) ∙ h)

  at_same : (m e i s : ℕ) → body_has (λ row. slice_index row.masks i) (part_of x l (holds t)).bodies m e s ≡ holds t (At m e i s)
  unfolding holds mask_of
  at_same m e i s =
      ⊎_elim
      (λ lt. body_same (λ row. slice_index row.masks i) (λ u. holds t (At m e i u)) m e s (mask_at (holds t) m (code_len x.app m) e i lt)
      (λ h. let p = has_true _ e s h in ((at_reached m e i s h).0, p.0, p.1, inr (inr (i, lt, h)))))
      (λ past. (let none : slice_index (masks_of (holds t) m (code_len x.app m) e) i ≡ 0 = get_or_past _ i 0 (omega (arith, past, length-map-range_with_len (λ j. mask_of (λ u. holds t (At m e j u))) 0 (code_len x.app m))) in
      body_same (λ row. slice_index row.masks i) (λ u. false) m e s none (λ h. absurd (cc))
      ∙ sym (⊎_elim (λ on. absurd (let r = (at_reached m e i s on).1 in omega arith)) (λ off. off) (cases_Bool (holds t (At m e i s))))))
      (cases_lt i (code_len x.app m))

  ret_same : (m e s : ℕ) → body_has (λ row. row.ret) (part_of x l (holds t)).bodies m e s ≡ holds t (Ret m e s)
  unfolding holds
  ret_same m e s = body_same (λ row. row.ret) (λ u. holds t (Ret m e u)) m e s refl (λ h. let p = has_true _ e s h in (ends_reached (Ret m e s) h, p.0, p.1, inl h))

  exc_same : (m e s : ℕ) → body_has (λ row. row.exc) (part_of x l (holds t)).bodies m e s ≡ holds t (Exc m e s)
  unfolding holds
  exc_same m e s = body_same (λ row. row.exc) (λ u. holds t (Exc m e u)) m e s refl (λ h. let p = has_true _ e s h in (ends_reached (Exc m e s) h, p.0, p.1, inr (inl h)))

  same_fact : (f : Fact) → facts_of (part_of x l (holds t)) f ≡ holds t f
  unfolding facts_of
  same_fact (View c q s) = view_same c q s
  same_fact (At m e i s) = at_same m e i s
  same_fact (Ret m e s) = ret_same m e s
  same_fact (Exc m e s) = exc_same m e s

  pub same_facts : facts_of (part_of x l (holds t)) ≡ holds t
  same_facts = fun_ext same_fact
