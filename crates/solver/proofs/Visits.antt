-- The rules from the facts of an instruction, whose word is `w`.
use Rattle.std.proofs.Common.{arith, ◌<◌, ◌≡◌, ℕ, Bool, true, false, [], ◌∷◌, Some, refl, sym, ap, ◌∙◌, List, length, get_or, eqb, subst, Contains, ⊎_elim}
use Rattle.std.specs.Prelude.{◌||◌, ◌&&◌, not}
use Rattle.std.proofs.lemmas.Bool.{and_parts, cases_Bool, eqb-true}
use Rattle.std.proofs.lemmas.List.{get_or_default}
use Rattle.ns_base.specs.declared.rows.MethodNo.{MethodNo}
use Rattle.app_model.specs.Facts.{Fact, At, Ret, Exc}
use Rattle.app_model.specs.Masks.{in_mask}
use Rattle.app_model.specs.Subject.{SubjectParts, callees_at}
use Rattle.app_model.specs.Words.{successor_at, handler_at, leaves_at}
use Rattle.flow_model.specs.Rules.{Inside, I1, I1_return, I2, I3, I3_leaves, C1, C2, C3, C3_leaves}
use Rattle.flow_model.specs.Subject.{own_operation, returns_at}
use Rattle.solution.specs.Facts.{Facts, holds, Joins, HasPlaces}
use Rattle.solution.specs.Words.{has, IsMask, AreRows, Joined, Itself}
use Rattle.solution.proofs.Bits.{has_true, none_has}
use Rattle.solution.proofs.Products.{and_not}
use Rattle.solver.specs.Turns.{AllMasks, InsideBy, Turn, Sure, Keeps, Every, Follows, AreFacts, IsPlace, HasPlace, Grown, Nothing}
use Rattle.solver.specs.Visits.{Asked, Opens, IsHere, IsOpenAt, AreThrown, SuccessorPassed, ThrownTo, ThrownOut, Thrown, OwnThrown, Entered, CameBack, ThrewBack, IsCalled, CalleeDone, EachCalled, CallsDone, Returned, IsLed, LedOn, AreLed, Nears, IsDone, IsVisited}
use Rattle.solver.proofs.Turns.{has_all_kept, place_kept, places_kept, turn_none, turn_joins, turn_next, turn_as, turn_sure, sure_none, sure_joins, sure_next, sure_as, keeps_none, keeps_turn, keeps_more}

-- the statuses of a word
abbrev pub AllOf : ℕ → ℕ → Type 0
AllOf w t = (e : ℕ) × (has w e t ≡ true)

-- what the asked masks lead to
pub image_only : (f : ℕ → ℕ) (w seen asked out : ℕ) → AreRows (Asked f seen) 8 asked → AreRows (Joined w asked) 8 out → (e u : ℕ) → has out e u ≡ true → (s : ℕ) × (has w e s ≡ true) × (in_mask (f s) u ≡ true)
image_only f w seen asked out a o e u h = let z = o.only e u h in (z.0, z.1, (a.only z.0 u z.2).1)

pub image_there : (f : ℕ → ℕ) (w seen asked out : ℕ) → IsMask (AllOf w) seen → AreRows (Asked f seen) 8 asked → AreRows (Joined w asked) 8 out → (e s u : ℕ) → has w e s ≡ true → in_mask (f s) u ≡ true → has out e u ≡ true
image_there f w seen asked out all a o e s u h mask =
    let p = has_true w e s h in
    o.there e u p.0 (s, h, a.there s u p.1 (all.there s (e, h), mask))

module _ (x : SubjectParts) (l : ℕ) where
  -- what stays true behind a part
  pub here_after : (goal : AllMasks → Facts → Type 0) (k n : AllMasks) (a b : Facts) (c : Bool) (m i w : ℕ) → Turn (InsideBy x l) goal k n a b c → IsHere x l a m i w → IsHere x l b m i w
  here_after goal k n a b c m i w t h = record { place = place_kept x l a b m i t.size h.place; at = λ e s y. t.kept _ (h.at e s y) }

  pub open_after : (goal : AllMasks → Facts → Type 0) (k n : AllMasks) (a b : Facts) (c : Bool) (m i w : ℕ) → Turn (InsideBy x l) goal k n a b c → IsOpenAt x l a m i w → IsOpenAt x l b m i w
  open_after goal k n a b c m i w t h = record { place = place_kept x l a b m i t.size h.place; at = λ e s y. t.kept _ (h.at e s y); is_open = h.is_open }

  pub thrown_kept : (ms : AllMasks) (a b : Facts) (m i w : ℕ) → ((f : Fact) → holds a f ≡ true → holds b f ≡ true) → AreThrown x l ms a m i w → AreThrown x l ms b m i w
  thrown_kept ms a b m i w kept h = record { by = λ e u y. (let c = h.by e u y in record { needs = c.needs; has = has_all_kept a b kept c.needs c.has; to = c.to; out = c.out }) }

  -- I1 or I2, whether it is an own operation or not
  passed_by : (ms : AllMasks) (m e i s j u k : ℕ) → successor_at x.app m i k ≡ Some j → in_mask ((ms x l).passes m i k s) u ≡ true → Inside x l (ms x l) (At m e i s ∷ []) (At m e j u)
  passed_by ms m e i s j u k is mask = ⊎_elim (λ own. I2 k own is mask) (λ other. I1 k other is mask) (cases_Bool (own_operation x l m i))

  pub pass_turn : (ms : AllMasks) (m i k to w seen asked out : ℕ) (old new : Facts) (c : Bool) → successor_at x.app m i k ≡ Some to → IsHere x l old m i w
      → IsMask (AllOf w) seen → AreRows (Asked ((ms x l).passes m i k) seen) 8 asked → AreRows (Joined w asked) 8 out
      → Joins old (λ e s. At m e to s) out new c → Sure (InsideBy x l) (SuccessorPassed x l m i w k) ms ms old new c
  pass_turn ms m i k to w seen asked out old new c is here all a o j =
      let f = (ms x l).passes m i k in
      let why : (e u : ℕ) → has out e u ≡ true → Follows (InsideBy x l ms) old (At m e to u) = λ e u h.
      (let z = image_only f w seen asked out a o e u h in record { needs = At m e i z.0 ∷ []; by = passed_by ms m e i z.0 to u k is z.2; has = (here.at e z.0 z.1, tt) }) in
      sure_as (InsideBy x l) _ (SuccessorPassed x l m i w k) ms ms old new c
      (λ t there e s u q h at mask. (let eq : q ≡ to = cc in rw eq (there e u (image_there f w seen asked out all a o e s u h mask))))
      (sure_joins (InsideBy x l) ms old (λ e s. At m e to s) out new c j why)

  -- I1 at a return
  pub return_turn : (ms : AllMasks) (m i w : ℕ) (old new : Facts) (c : Bool) → returns_at x m i ≡ true → IsHere x l old m i w → Joins old (λ e s. Ret m e s) w new c → Sure (InsideBy x l) (Returned x m i w) ms ms old new c
  return_turn ms m i w old new c is here j =
      let why : (e s : ℕ) → has w e s ≡ true → Follows (InsideBy x l ms) old (Ret m e s) = λ e s h. record { needs = At m e i s ∷ []; by = I1_return is; has = (here.at e s h, tt) } in
      sure_as (InsideBy x l) _ (Returned x m i w) ms ms old new c (λ t there e s h yes. there e s h) (sure_joins (InsideBy x l) ms old (λ e s. Ret m e s) w new c j why)

  -- what may be thrown, to a handler and out
  pub throw_to_turn : (ms : AllMasks) (m i k to w : ℕ) (old new : Facts) (c : Bool) → handler_at x.app m i k ≡ Some to → AreThrown x l ms old m i w → Joins old (λ e s. At m e to s) w new c → Sure (InsideBy x l) (ThrownTo x m i w k) ms ms old new c
  throw_to_turn ms m i k to w old new c is can j =
      let why : (e u : ℕ) → has w e u ≡ true → Follows (InsideBy x l ms) old (At m e to u) = λ e u h. (let z = can.by e u h in record { needs = z.needs; by = z.to k to is; has = z.has }) in
      sure_as (InsideBy x l) _ (ThrownTo x m i w k) ms ms old new c (λ t there e u q h at. (let eq : q ≡ to = cc in rw eq (there e u h))) (sure_joins (InsideBy x l) ms old (λ e s. At m e to s) w new c j why)

  pub throw_out_turn : (ms : AllMasks) (m i w : ℕ) (old new : Facts) (c : Bool) → leaves_at x.app m i ≡ true → AreThrown x l ms old m i w → Joins old (λ e s. Exc m e s) w new c → Sure (InsideBy x l) (ThrownOut x m i w) ms ms old new c
  throw_out_turn ms m i w old new c is can j =
      let why : (e u : ℕ) → has w e u ≡ true → Follows (InsideBy x l ms) old (Exc m e u) = λ e u h. (let z = can.by e u h in record { needs = z.needs; by = z.out is; has = z.has }) in
      sure_as (InsideBy x l) _ (ThrownOut x m i w) ms ms old new c (λ t there e u h yes. there e u h) (sure_joins (InsideBy x l) ms old (λ e s. Exc m e s) w new c j why)

  pub throw_turn : (ms : AllMasks) (m i w : ℕ) (a b d : Facts) (c q : Bool) → Sure (InsideBy x l) (Every (ThrownTo x m i w)) ms ms a b c → Sure (InsideBy x l) (ThrownOut x m i w) ms ms b d q → Sure (InsideBy x l) (Thrown x m i w) ms ms a d (c || q)
  throw_turn ms m i w a b d c q =
      sure_next (InsideBy x l) (Every (ThrownTo x m i w)) (ThrownOut x m i w) (Thrown x m i w) ms ms ms a b d c q
      (λ t f g e u h. record { to = λ k n is. f k e u n h is; out = λ yes. g e u h yes })

  pub throw_none : (ms : AllMasks) (m i w : ℕ) (t : Facts) → w ≡ 0 → Sure (InsideBy x l) (Thrown x m i w) ms ms t t false
  throw_none ms m i w t is = sure_none (InsideBy x l) (Thrown x m i w) ms t (λ u more e s h. absurd (none_has e s (rw is at h)))

  -- I3
  pub own_thrown : (ms : AllMasks) (m i w seen asked out : ℕ) (t : Facts) → IsHere x l t m i w → AreRows (Asked ((ms x l).throws m i) seen) 8 asked → AreRows (Joined w asked) 8 out → AreThrown x l ms t m i out
  own_thrown ms m i w seen asked out t here a o = record {
    by = λ e u h. (let z = image_only ((ms x l).throws m i) w seen asked out a o e u h in
        record { needs = At m e i z.0 ∷ []; has = (here.at e z.0 z.1, tt); to = λ k q is. I3 k is z.2; out = λ is. I3_leaves is z.2 });
  }

  pub own_turn : (ms : AllMasks) (m i w seen asked out : ℕ) (old new : Facts) (c : Bool) → IsMask (AllOf w) seen → AreRows (Asked ((ms x l).throws m i) seen) 8 asked → AreRows (Joined w asked) 8 out
      → Sure (InsideBy x l) (Thrown x m i out) ms ms old new c → Sure (InsideBy x l) (OwnThrown x l m i w) ms ms old new c
  own_turn ms m i w seen asked out old new c all a o =
      sure_as (InsideBy x l) (Thrown x m i out) (OwnThrown x l m i w) ms ms old new c (λ t f e s u h mask. f e u (image_there ((ms x l).throws m i) w seen asked out all a o e s u h mask))

  module _ (m i w : ℕ) (n : MethodNo) (called : Contains (callees_at x m i) n) where
    -- C1
    pub enter_turn : (ms : AllMasks) (mask out : ℕ) (old new : Facts) (c : Bool) → IsOpenAt x l old m i w → IsMask (AllOf w) mask → AreRows (Itself mask) 8 out
        → Joins old (λ e s. At n.0 e 0 s) out new c → Turn (InsideBy x l) (Entered w n.0) ms ms old new c
    enter_turn ms mask out old new c here all o j =
        let why : (e s : ℕ) → has out e s ≡ true → Follows (InsideBy x l ms) old (At n.0 e 0 s) = λ e s h.
        (let z = o.only e s h in let d = all.only e z.1 in rw z.0 (record { needs = At m d.0 i e ∷ []; by = C1 n called (here.is_open d.0 e d.1); has = (here.at d.0 e d.1, tt) })) in
        turn_as (InsideBy x l) _ (Entered w n.0) ms ms old new c (λ same there e s h. there s s (o.there s s (has_true w e s h).1 (refl, all.there s (e, h)))) (turn_joins (InsideBy x l) ms old (λ e s. At n.0 e 0 s) out new c j why)

    -- C2
    pub back_turn : (ms : AllMasks) (to ret out : ℕ) (old new : Facts) (c : Bool) → successor_at x.app m i 0 ≡ Some to → IsOpenAt x l old m i w → ((e s : ℕ) → has ret e s ≡ holds old (Ret n.0 e s)) → AreRows (Joined w ret) 8 out
        → Joins old (λ e s. At m e to s) out new c → Turn (InsideBy x l) (CameBack x m i w n.0) ms ms old new c
    back_turn ms to ret out old new c is here rets o j =
        let why : (e u : ℕ) → has out e u ≡ true → Follows (InsideBy x l ms) old (At m e to u) = λ e u h.
        (let z = o.only e u h in record { needs = At m e i z.0 ∷ Ret n.0 z.0 u ∷ []; by = C2 n called (here.is_open e z.0 z.1) is; has = (here.at e z.0 z.1, (sym (rets z.0 u) ∙ z.2, tt)) }) in
        turn_as (InsideBy x l) _ (CameBack x m i w n.0) ms ms old new c
        (λ same there e s u q h r at. (let eq : q ≡ to = cc in let r' : holds old (Ret n.0 s u) ≡ true = ap (λ t. holds t (Ret n.0 s u)) (sym same) ∙ r in rw eq (there e u (o.there e u (has_true w e s h).0 (s, h, rets s u ∙ r')))))
        (turn_joins (InsideBy x l) ms old (λ e s. At m e to s) out new c j why)

    -- C3
    pub back_thrown : (ms : AllMasks) (exc out : ℕ) (t : Facts) → IsOpenAt x l t m i w → ((e s : ℕ) → has exc e s ≡ holds t (Exc n.0 e s)) → AreRows (Joined w exc) 8 out → AreThrown x l ms t m i out
    back_thrown ms exc out t here excs o = record {
      by = λ e u h. (let z = o.only e u h in record {
        needs = At m e i z.0 ∷ Exc n.0 z.0 u ∷ [];
        has = (here.at e z.0 z.1, (sym (excs z.0 u) ∙ z.2, tt));
        to = λ q g is. C3 n q called (here.is_open e z.0 z.1) is;
        out = λ is. C3_leaves n called (here.is_open e z.0 z.1) is;
      });
    }

    pub threw_turn : (ms : AllMasks) (exc out : ℕ) (old new : Facts) (c : Bool) → ((e s : ℕ) → has exc e s ≡ holds old (Exc n.0 e s)) → AreRows (Joined w exc) 8 out
        → Sure (InsideBy x l) (Thrown x m i out) ms ms old new c → Turn (InsideBy x l) (ThrewBack x m i w n.0) ms ms old new c
    threw_turn ms exc out old new c excs o thrown =
        turn_as (InsideBy x l) (Thrown x m i out) (ThrewBack x m i w n.0) ms ms old new c
        (λ same f e s u h r. (let r' : holds old (Exc n.0 s u) ≡ true = ap (λ t. holds t (Exc n.0 s u)) (sym same) ∙ r in f e u (o.there e u (has_true w e s h).0 (s, h, excs s u ∙ r'))))
        (turn_sure (InsideBy x l) (Thrown x m i out) ms ms old new c thrown)

  pub called_turn : (ms : AllMasks) (m i n w : ℕ) (a b c d : Facts) (p q r : Bool) → Turn (InsideBy x l) (Entered w n) ms ms a b p → Turn (InsideBy x l) (CameBack x m i w n) ms ms b c q → Turn (InsideBy x l) (ThrewBack x m i w n) ms ms c d r → Turn (InsideBy x l) (IsCalled x m i w n) ms ms a d (p || q || r)
  called_turn ms m i n w a b c d p q r t u v =
      turn_next (InsideBy x l) (λ k s. Entered w n k s × CameBack x m i w n k s) (ThrewBack x m i w n) (IsCalled x m i w n) ms ms ms a c d (p || q) r (λ s f g. record { entered = f.0; back = f.1; threw = g })
      (turn_next (InsideBy x l) (Entered w n) (CameBack x m i w n) (λ k s. Entered w n k s × CameBack x m i w n k s) ms ms ms a b c p q (λ s f g. (f, g)) t u) v

  -- the callee of a number
  pub callee_there : (m i k : ℕ) (xs : List MethodNo) (d : MethodNo) → xs ≡ callees_at x m i → k < length xs → Contains (callees_at x m i) (get_or xs k d)
  callee_there m i k xs d same lt = subst (λ (zs : List MethodNo). Contains zs (get_or xs k d)) same (k, lt, get_or_default xs k _ d lt)

  pub callee_turn : (ms : AllMasks) (m i k w : ℕ) (xs : List MethodNo) (d : MethodNo) (old new : Facts) (c : Bool) → xs ≡ callees_at x m i → k < length xs
      → Turn (InsideBy x l) (IsCalled x m i w (get_or xs k d).0) ms ms old new c → Turn (InsideBy x l) (CalleeDone x m i w k) ms ms old new c
  callee_turn ms m i k w xs d old new c same lt =
      turn_as (InsideBy x l) (IsCalled x m i w (get_or xs k d).0) (CalleeDone x m i w k) ms ms old new c
      (λ is f q at. (let eq : q ≡ get_or xs k d = sym at ∙ ap (λ (zs : List MethodNo). get_or zs k q) (sym same) ∙ get_or_default xs k q d lt in rw eq f))

  -- no callee
  pub calls_none : (ms : AllMasks) (m i w : ℕ) (t : Facts) (xs : List MethodNo) → xs ≡ callees_at x m i → eqb (length xs) 0 ≡ true → Turn (InsideBy x l) (CallsDone x l m i w) ms ms t t false
  calls_none ms m i w t xs same none =
      turn_none (InsideBy x l) (CallsDone x l m i w) ms t (λ e s n h yes there. absurd (let z = eqb-true (length xs) 0 none in let lt : there.0 < length xs = rw same there.1 in omega arith))

  -- the statuses of a word at which the call is open
  pub opened : (t : Facts) (m i w seen mask own out : ℕ) → IsMask (λ t. (s : ℕ) × Opens x l m i seen s t) mask → IsHere x l t m i w → AreRows (Itself mask) 8 own → AreRows (Joined w own) 8 out → IsOpenAt x l t m i out
  opened t m i w seen mask own out is here a o = record {
    place = here.place;
    at = λ e s h. (let z = o.only e s h in let y = a.only z.0 s z.2 in rw y.0 (here.at e z.0 z.1));
    is_open = λ e s h. (let z = o.only e s h in let y = a.only z.0 s z.2 in let q = is.only z.0 y.1 in rw (y.0, q.1.0) q.1.2);
  }

  pub calls_turn : (ms : AllMasks) (m i w seen mask own out : ℕ) (old new : Facts) (c : Bool) → IsMask (AllOf w) seen → IsMask (λ t. (s : ℕ) × Opens x l m i seen s t) mask → AreRows (Itself mask) 8 own → AreRows (Joined w own) 8 out
      → Turn (InsideBy x l) (EachCalled x m i out) ms ms old new c → Turn (InsideBy x l) (CallsDone x l m i w) ms ms old new c
  calls_turn ms m i w seen mask own out old new c all is a o =
      turn_as (InsideBy x l) (EachCalled x m i out) (CallsDone x l m i w) ms ms old new c
      (λ same f e s n h yes there. (let p = has_true w e s h in (out, o.there e s p.0 (s, h, a.there s s p.1 (refl, is.there s (s, (refl, all.there s (e, h), yes)))), f there.0 there.1 n there.2)))

  -- what is there from one fact, stays
  pub led_kept : (ms : AllMasks) (a b : Facts) (m e i s : ℕ) → Grown a b → IsLed x l m e i s ms a → IsLed x l m e i s ms b
  led_kept ms a b m e i s kept led = record {
    passed = λ k j u to mask. kept _ (led.passed k j u to mask);
    threw = λ u mask. (let t = led.threw u mask in record { to = λ k h is. kept _ (t.to k h is); out = λ is. kept _ (t.out is) });
    returned = λ is. kept _ (led.returned is);
  }

  pub are_led_kept : (ms : AllMasks) (led a b : Facts) → Grown a b → AreLed x l ms led a → AreLed x l ms led b
  are_led_kept ms led a b kept are = record { places = are.places; done = λ m e i s h. led_kept ms a b m e i s kept (are.done m e i s h) }

  pub led_after : (goal : AllMasks → Facts → Type 0) (k n : AllMasks) (led a b : Facts) (c : Bool) → Turn (InsideBy x l) goal k n a b c → AreLed x l k led a → AreLed x l n led b
  led_after goal k n led a b c t are = subst (λ (z : AllMasks). AreLed x l z led b) (sym t.masks) (are_led_kept k led a b t.kept are)

  -- the places of the facts that were led on
  pub led_place : (led t : Facts) (m i : ℕ) → HasPlaces x led → HasPlace x l t m i → HasPlace x l led m i
  led_place led t m i places here = record { facts = record { sound = here.facts.sound; lock = here.facts.lock; places = places }; place = here.place }

  pub led_turn : (k g n : AllMasks) (m i w : ℕ) (a b c d : Facts) (p q r : Bool)
      → Sure (InsideBy x l) (Every (SuccessorPassed x l m i w)) k g a b p → Sure (InsideBy x l) (OwnThrown x l m i w) g n b c q → Sure (InsideBy x l) (Returned x m i w) n n c d r
      → Sure (InsideBy x l) (LedOn x l m i w) k n a d (p || q || r)
  led_turn k g n m i w a b c d p q r s t u =
      let First = Every (SuccessorPassed x l m i w) in
      let Two : AllMasks → Facts → Type 0 = λ j f. First j f × OwnThrown x l m i w j f in
      sure_next (InsideBy x l) Two (Returned x m i w) (LedOn x l m i w) k n n a c d (p || q) r
      (λ f y z e o h. record { passed = λ v j w to mask. y.0 v e o w j h to mask; threw = λ v mask. y.1 e o v h mask; returned = λ is. z e o h is })
      (sure_next (InsideBy x l) First (OwnThrown x l m i w) Two k g n a b c p q (λ f y z. (y, z)) s t) u

  -- with those that were led on before
  pub rest_turn : (k n : AllMasks) (m i w v rest : ℕ) (led a b : Facts) (c : Bool) → AreLed x l k led a → ((e s : ℕ) → has v e s ≡ holds led (At m e i s)) → ((e s : ℕ) → has rest e s ≡ (has w e s && not (has v e s)))
      → Sure (InsideBy x l) (LedOn x l m i rest) k n a b c → Sure (InsideBy x l) (LedOn x l m i w) k n a b c
  rest_turn k n m i w v rest led a b c are is without t = record {
    turn = t.turn;
    done = λ f more e s h. ⊎_elim
        (λ yes. led_kept k a f m e i s (λ g y. more g (t.turn.kept g y)) (are.done m e i s (sym (is e s) ∙ yes)))
        (λ off. t.done f more e s (without e s ∙ and_not _ _ h off))
        (cases_Bool (has v e s));
  }

  pub rest_none : (k : AllMasks) (m i w v rest : ℕ) (led a : Facts) → AreLed x l k led a → ((e s : ℕ) → has v e s ≡ holds led (At m e i s)) → ((e s : ℕ) → has rest e s ≡ (has w e s && not (has v e s))) → rest ≡ 0
      → Sure (InsideBy x l) (LedOn x l m i w) k k a a false
  rest_none k m i w v rest led a are is without none =
      rest_turn k k m i w v rest led a a false are is without (sure_none (InsideBy x l) (LedOn x l m i rest) k a (λ u more e s h. absurd (none_has e s (rw none at h))))

  -- the facts of a word are led on, and count as such
  pub nears_led : (goal : AllMasks → Facts → Type 0) (k n : AllMasks) (m i w : ℕ) (led more a b c : Facts) (p q r : Bool) → AreLed x l k led a → Joins led (λ e s. At m e i s) w more r
      → Sure (InsideBy x l) (LedOn x l m i w) k n a b p → Turn (InsideBy x l) goal n n b c q → Nears x l k n a c more
  nears_led goal k n m i w led more a b c p q r are j s t = record {
    keeps = keeps_more (InsideBy x l) k n n a b c (keeps_turn (InsideBy x l) Nothing k n a b p s.turn) (keeps_turn (InsideBy x l) goal n n b c q t);
    led = record {
      places = places_kept x led more j.size are.places;
      done = λ d e h o is. subst (λ (z : AllMasks). IsLed x l d e h o z c) (sym s.turn.masks) (⊎_elim
          (λ old. led_kept k a c d e h o (λ f y. t.kept f (s.turn.kept f y)) (are.done d e h o old))
          (λ z. (let same = z.3 in
          let dm : d ≡ m = cc in
          let ee : e ≡ z.0 = cc in
          let hi : h ≡ i = cc in
          let os : o ≡ z.1 = cc in
          rw (dm, ee, hi, os) (s.done c t.kept z.0 z.1 z.2)))
          (j.only (At d e h o) is));
    };
  }

  pub nears_none : (k : AllMasks) (led t : Facts) → AreLed x l k led t → Nears x l k k t t led
  nears_none k led t are = record { keeps = keeps_none (InsideBy x l) k t; led = are }

  pub nears_kept : (k : AllMasks) (led a b : Facts) → AreLed x l k led a → Keeps (InsideBy x l) k k a b → Nears x l k k a b led
  nears_kept k led a b are keeps = record { keeps = keeps; led = are_led_kept k led a b keeps.kept are }

  pub nears_more : (k m n : AllMasks) (a b c first next : Facts) → Nears x l k m a b first → Nears x l m n b c next → Nears x l k n a c next
  nears_more k m n a b c first next s t = record { keeps = keeps_more (InsideBy x l) k m n a b c s.keeps t.keeps; led = t.led }

  -- no facts were led on
  pub none_led : (ms : AllMasks) (led t : Facts) → HasPlaces x led → ((f : Fact) → holds led f ≡ false) → AreLed x l ms led t
  none_led ms led t places none = record { places = places; done = λ m e i s h. absurd (let z = none (At m e i s) in cc) }

  -- a word without facts
  nothing_there : (ms : AllMasks) (t : Facts) (m i w : ℕ) → w ≡ 0 → IsDone x l m i w ms t
  nothing_there ms t m i w is = record { led = λ e s h. absurd (none_has e s (rw is at h)); called = λ e s n h. absurd (none_has e s (rw is at h)) }

  pub visit_turn : (k n : AllMasks) (m i w : ℕ) (a b d : Facts) (c q : Bool) → ((e s : ℕ) → has w e s ≡ holds a (At m e i s)) → Sure (InsideBy x l) (LedOn x l m i w) k n a b c → Turn (InsideBy x l) (CallsDone x l m i w) n n b d q
      → Turn (InsideBy x l) (IsVisited x l m i) k n a d (c || q)
  visit_turn k n m i w a b d c q is s t =
      turn_as (InsideBy x l) (IsDone x l m i w) (IsVisited x l m i) k n a d (c || q) (λ same y. (w, (λ e o. is e o ∙ ap (λ f. holds f (At m e i o)) (sym same)), y))
      (turn_next (InsideBy x l) (LedOn x l m i w) (CallsDone x l m i w) (IsDone x l m i w) k n n a b d c q (λ f y z. record { led = y; called = z }) (turn_sure (InsideBy x l) (LedOn x l m i w) k n a b c s) t)

  pub visit_none : (k : AllMasks) (m i w : ℕ) (t : Facts) → ((e s : ℕ) → has w e s ≡ holds t (At m e i s)) → w ≡ 0 → Turn (InsideBy x l) (IsVisited x l m i) k k t t false
  visit_none k m i w t is z = turn_none (InsideBy x l) (IsVisited x l m i) k t (w, is, nothing_there k t m i w z)

  pub place_of : (t : Facts) (m i : ℕ) → AreFacts x l t → IsPlace x l m i → HasPlace x l t m i
  place_of t m i facts place = record { facts = facts; place = place }

  -- the word that was read
  pub at_read : (t : Facts) (m i w : ℕ) → HasPlace x l t m i → ((e s : ℕ) → has w e s ≡ holds t (At m e i s)) → IsHere x l t m i w
  at_read t m i w place is = record { place = place; at = λ e s h. sym (is e s) ∙ h }

  -- some of its facts
  pub rest_here : (t : Facts) (m i w v rest : ℕ) → ((e s : ℕ) → has rest e s ≡ (has w e s && not (has v e s))) → IsHere x l t m i w → IsHere x l t m i rest
  rest_here t m i w v rest is here = record { place = here.place; at = λ e s h. here.at e s (and_parts _ _ (sym (is e s) ∙ h)).0 }
