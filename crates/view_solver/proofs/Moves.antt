-- The rules between callbacks, and their starts, by words.
use Rattle.std.proofs.Common.{◌≡◌, ◌≢◌, ℕ, ◌<◌, Bool, true, false, List, [], ◌∷◌, Option, Some, None, length, refl, sym, ap, ◌∙◌, subst, ⊎_elim, inl, inr, arith}
use Rattle.std.specs.Prelude.{◌||◌, ◌&&◌, not}
use Rattle.std.proofs.lemmas.Bool.{cases_Bool}
use Rattle.app_model.specs.Components.{edge_at, callback_at}
use Rattle.app_model.specs.Facts.{Fact, View, At}
use Rattle.app_model.specs.Masks.{in_mask}
use Rattle.app_model.specs.Subject.{SubjectParts}
use Rattle.app_model.specs.declared.component.Edge.{Edge}
use Rattle.flow_model.specs.Rules.{Between, V1, V2, V3, V4, V5, Carries, entered}
use Rattle.solution.specs.Facts.{Facts, holds, Joins}
use Rattle.solution.specs.Words.{has, IsMask, AreRows, IsShifted, IsOne, Joined, Itself, Leads}
use Rattle.solution.specs.Table.{word}
use Rattle.solution.proofs.Bits.{has_true, mask_true, none_has}
use Rattle.solution.proofs.Products.{and_not}
use Rattle.solver.specs.Turns.{AllMasks, Turn, Each, Every, Follows}
use Rattle.solver.proofs.Turns.{has_all_kept, turn_none, turn_joins, turn_next, turn_as}
use Rattle.view_solver.specs.Views.{WholeBy, EnteredBy, Carried, Moves, Begun, Started, MovedOn, IsEdgeDone, EdgeDone, Watched, Told, ComponentDone}

-- a fact of the new facts, where nothing changed
back : (old new : Facts) (f : Fact) → new ≡ old → holds new f ≡ true → holds old f ≡ true
back old new f same h = ap (λ t. holds t f) (sym same) ∙ h

-- the status of a view is one of eight
view_below : (t : Facts) (c q s : ℕ) → holds t (View c q s) ≡ true → s < 8
unfolding holds
view_below t c q s h = (has_true (word t.ends 2 c) q s h).1

module _ (x : SubjectParts) (l : ℕ) where
  -- V1
  pub begin_turn : (ms : AllMasks) (c w : ℕ) (old new : Facts) (b : Bool) → c < length x.list → AreRows (IsOne 0 0) 8 w → Joins old (λ q s. View c q s) w new b → Turn (WholeBy x l) (Begun c) ms ms old new b
  begin_turn ms c w old new b lt one j =
      let why : (q s : ℕ) → has w q s ≡ true → Follows (WholeBy x l ms) old (View c q s) = λ q s h.
      (let z = one.only q s h in rw (z.0, z.1) (record { needs = []; by = inr (V1 lt); has = tt })) in
      turn_as (WholeBy x l) _ (Begun c) ms ms old new b (λ same there. there 0 0 (one.there 0 0 (omega arith) (refl, refl))) (turn_joins (WholeBy x l) ms old (λ q s. View c q s) w new b j why)

  module _ (c number : ℕ) (edge : Edge) (is : edge_at x.list c number ≡ Some edge) (seen : ℕ) (old new : Facts) (view : (s : ℕ) → in_mask seen s ≡ holds old (View c edge.from s)) where
    -- V3
    pub start_turn : (ms : AllMasks) (m enter mask out : ℕ) (b : Bool) → callback_at x.list c edge.callback ≡ Some m → AreRows (EnteredBy x l c edge) 8 enter → IsMask (λ t. (s : ℕ) × Leads seen enter s t) mask → AreRows (Itself mask) 8 out
        → Joins old (λ e s. At m e 0 s) out new b → Turn (WholeBy x l) (Started x l c edge) ms ms old new b
    start_turn ms m enter mask out b called en lead o j =
        let why : (e s : ℕ) → has out e s ≡ true → Follows (WholeBy x l ms) old (At m e 0 s) = λ e s h.
        (let z = o.only e s h in let d = lead.only e z.1 in let eq : e ≡ entered x l c edge d.0 = en.only d.0 e d.1.1 in
        subst (λ v. Follows (WholeBy x l ms) old (At m e 0 v)) (sym z.0)
        (subst (λ v. Follows (WholeBy x l ms) old (At m v 0 v)) (sym eq)
        (record { needs = View c edge.from d.0 ∷ []; by = inl (inr (V3 number is refl called)); has = (sym (view d.0) ∙ d.1.0, tt) }))) in
        turn_as (WholeBy x l) _ (Started x l c edge) ms ms old new b
        (λ same there s n h at. (let eq : n ≡ m = cc in
        let v : in_mask seen s ≡ true = view s ∙ back old new _ same h in
        let g = en.there s (entered x l c edge s) (mask_true seen s v).0 refl in
        let k = lead.there (entered x l c edge s) (s, (v, g)) in
        rw eq (there _ _ (o.there _ _ (has_true enter s _ g).1 (refl, k)))))
        (turn_joins (WholeBy x l) ms old (λ e s. At m e 0 s) out new b j why)

    -- V2 and V4
    moved_by : (s u : ℕ) (needs : List Fact) → Carries x l c edge s u needs → Between x (Carries x l) (View c edge.from s ∷ needs) (View c edge.to u)
    moved_by s u needs carries = go (callback_at x.list c edge.callback) refl
      where
        go : (o : Option ℕ) → callback_at x.list c edge.callback ≡ o → Between x (Carries x l) (View c edge.from s ∷ needs) (View c edge.to u)
        go None none = V2 number is refl refl none carries
        go (Some m) there = V4 number m is refl refl there carries

    pub move_turn : (ms : AllMasks) (carry mask out : ℕ) (b : Bool) → AreRows (Carried x l old c edge) 8 carry → IsMask (λ t. (s : ℕ) × Leads seen carry s t) mask → IsShifted mask edge.to out
        → Joins old (λ q s. View c q s) out new b → Turn (WholeBy x l) (MovedOn x l c edge) ms ms old new b
    move_turn ms carry mask out b cw lead o j =
        let why : (q u : ℕ) → has out q u ≡ true → Follows (WholeBy x l ms) old (View c q u) = λ q u h.
        (let z = o.only q u h in let d = lead.only u z.1 in let k = cw.only d.0 u d.1.1 in
        subst (λ v. Follows (WholeBy x l ms) old (View c v u)) (sym z.0)
        (record { needs = View c edge.from d.0 ∷ k.0; by = inr (moved_by d.0 u k.0 k.1); has = (sym (view d.0) ∙ d.1.0, k.2) })) in
        turn_as (WholeBy x l) _ (MovedOn x l c edge) ms ms old new b
        (λ same there s u h carried. (let v : in_mask seen s ≡ true = view s ∙ back old new _ same h in
        let was : Carried x l old c edge s u = subst (λ t. Carried x l t c edge s u) same carried in
        let g = cw.there s u (mask_true seen s v).0 was in
        there edge.to u (o.there u (lead.there u (s, (v, g))))))
        (turn_joins (WholeBy x l) ms old (λ q s. View c q s) out new b j why)

  pub edge_turn : (ms : AllMasks) (c e : ℕ) (edge : Edge) (a b d : Facts) (p q : Bool) → edge_at x.list c e ≡ Some edge → Turn (WholeBy x l) (Started x l c edge) ms ms a b p → Turn (WholeBy x l) (MovedOn x l c edge) ms ms b d q → Turn (WholeBy x l) (EdgeDone x l c e) ms ms a d (p || q)
  edge_turn ms c e edge a b d p q is =
      turn_next (WholeBy x l) (Started x l c edge) (MovedOn x l c edge) (EdgeDone x l c e) ms ms ms a b d p q
      (λ t f g other at. (let eq : edge ≡ other = cc in subst (λ (z : Edge). IsEdgeDone x l c z ms t) eq (record { started = f; moved = g })))

  -- V5
  pub watch_turn : (ms : AllMasks) (c d w seen out : ℕ) (old new : Facts) (b : Bool) → d ≢ c → ((q s : ℕ) → has seen q s ≡ holds old (View c q s)) → ((s u : ℕ) → has w s u ≡ true → Moves x l old d s u) → AreRows (Joined seen w) 8 out
      → Joins old (λ q s. View c q s) out new b → Turn (WholeBy x l) (Watched w d c) ms ms old new b
  watch_turn ms c d w seen out old new b ne view moves o j =
      let why : (q u : ℕ) → has out q u ≡ true → Follows (WholeBy x l ms) old (View c q u) = λ q u h.
      (let z = o.only q u h in let v = moves z.0 u z.2 in
      record { needs = View c q z.0 ∷ View d v.1.0.from z.0 ∷ v.1.3.0; by = inr (V5 v.0 ne v.1.1 refl v.1.3.1); has = (sym (view q z.0) ∙ z.1, (v.1.2, v.1.3.2)) }) in
      turn_as (WholeBy x l) _ (Watched w d c) ms ms old new b
      (λ same there other q s u h led. (let v = view q s ∙ back old new _ same h in there q u (o.there q u (has_true seen q s v).0 (s, v, led))))
      (turn_joins (WholeBy x l) ms old (λ q s. View c q s) out new b j why)

  pub watch_none : (ms : AllMasks) (c d w : ℕ) (t : Facts) → c ≡ d → Turn (WholeBy x l) (Watched w d c) ms ms t t false
  watch_none ms c d w t eq = turn_none (WholeBy x l) (Watched w d c) ms t (λ ne. absurd (ne (sym eq)))

  pub moves_kept : (a b : Facts) (d w : ℕ) → ((f : Fact) → holds a f ≡ true → holds b f ≡ true) → ((s u : ℕ) → has w s u ≡ true → Moves x l a d s u) → (s u : ℕ) → has w s u ≡ true → Moves x l b d s u
  moves_kept a b d w kept moves s u h = let v = moves s u h in (v.0, (v.1.0, v.1.1, kept _ v.1.2, (v.1.3.0, v.1.3.1, has_all_kept a b kept v.1.3.0 v.1.3.2)))

  pub tell_turn : (ms : AllMasks) (d w : ℕ) (old new : Facts) (b : Bool) → AreRows (Moves x l old d) 8 w → Turn (WholeBy x l) (Each (Watched w d) (length x.list)) ms ms old new b → Turn (WholeBy x l) (Told x l d) ms ms old new b
  tell_turn ms d w old new b rows =
      turn_as (WholeBy x l) (Each (Watched w d) (length x.list)) (Told x l d) ms ms old new b
      (λ same f c q s u lt ne h moves. f c lt ne q s u h (rows.there s u (view_below new c q s h) (subst (λ t. Moves x l t d s u) same moves)))

  pub tell_none : (ms : AllMasks) (d w own rest : ℕ) (t : Facts) → AreRows (Moves x l t d) 8 w → AreRows (Itself 255) 8 own → ((e s : ℕ) → has rest e s ≡ (has w e s && not (has own e s))) → rest ≡ 0 → Turn (WholeBy x l) (Told x l d) ms ms t t false
  tell_none ms d w own rest t rows o without none =
      turn_none (WholeBy x l) (Told x l d) ms t (λ c q s u lt ne h moves. ⊎_elim
      (λ yes. (let same = (o.only s u yes).0 in rw same h))
      (λ off. absurd (let led = rows.there s u (view_below t c q s h) moves in none_has s u (rw none at (without s u ∙ and_not _ _ led off))))
      (cases_Bool (has own s u)))

  pub component_turn : (ms : AllMasks) (c : ℕ) (t u v w : Facts) (p q r : Bool) → Turn (WholeBy x l) (Begun c) ms ms t u p → Turn (WholeBy x l) (Every (EdgeDone x l c)) ms ms u v q → Turn (WholeBy x l) (Told x l c) ms ms v w r → Turn (WholeBy x l) (ComponentDone x l c) ms ms t w (p || q || r)
  component_turn ms c t u v w p q r f g h =
      turn_next (WholeBy x l) (λ k s. Begun c k s × Every (EdgeDone x l c) k s) (Told x l c) (ComponentDone x l c) ms ms ms t v w (p || q) r (λ s a b. record { begun = a.0; edges = a.1; told = b })
      (turn_next (WholeBy x l) (Begun c) (Every (EdgeDone x l c)) (λ k s. Begun c k s × Every (EdgeDone x l c) k s) ms ms ms t u v p q (λ s a b. (a, b)) f g) h
