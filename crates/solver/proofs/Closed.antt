-- A sweep that changes nothing leaves a closed set.
use Rattle.std.proofs.Common.{◌≡◌, ℕ, true, List, ◌∙◌}
use Rattle.app_model.specs.Facts.{Fact, At}
use Rattle.app_model.specs.Subject.{SubjectParts}
use Rattle.flow_model.specs.Derived.{Set, is_given, all_done, HasAll, IsLeast}
use Rattle.flow_model.specs.Rules.{Inside, I1, I1_return, I2, I3, I3_leaves, C1, C2, C3, C3_leaves}
use Rattle.flow_model.proofs.Laws.{least}
use Rattle.solution.specs.Facts.{Facts, holds}
use Rattle.solution.proofs.Facts.{at_place}
use Rattle.solver.specs.Turns.{AllMasks, RulesBy, InsideBy, IsBelow, AreFacts}
use Rattle.solver.specs.Visits.{IsVisited, AllVisited}
use Rattle.solver.proofs.Places.{row_is, row_reached, method_there}

pub given_below : (rules : RulesBy) (ms : AllMasks) (t : Facts) → IsBelow rules ms (holds t) t
given_below rules ms t = record { by = λ f h. is_given h all_done }

module _ (x : SubjectParts) (l : ℕ) (ms : AllMasks) (t : Facts) (facts : AreFacts x l t) (done : AllVisited x l ms t) where
  visited : (m e i s : ℕ) → holds t (At m e i s) ≡ true → IsVisited x l m i ms t
  visited m e i s h =
      let there = at_place t m e i s h in
      let reached = row_reached x l t facts m i there in
      done m (method_there x l t facts m reached) reached i (rw (row_is x l t facts m reached) at there)

  closed_by : (needs : List Fact) (f : Fact) → Inside x l (ms x l) needs f → HasAll (holds t) needs → holds t f ≡ true
  closed_by _ _ (I1 {m = m} {e = e} {i = i} {s = s} k own to mask) has = let v = visited m e i s has.0 in (v.2.led e s (v.1 e s ∙ has.0)).passed k _ _ to mask
  closed_by _ _ (I2 {m = m} {e = e} {i = i} {s = s} k own to mask) has = let v = visited m e i s has.0 in (v.2.led e s (v.1 e s ∙ has.0)).passed k _ _ to mask
  closed_by _ _ (I1_return {m = m} {e = e} {i = i} {s = s} is) has = let v = visited m e i s has.0 in (v.2.led e s (v.1 e s ∙ has.0)).returned is
  closed_by _ _ (I3 {m = m} {e = e} {i = i} {s = s} k to mask) has = let v = visited m e i s has.0 in ((v.2.led e s (v.1 e s ∙ has.0)).threw _ mask).to k _ to
  closed_by _ _ (I3_leaves {m = m} {e = e} {i = i} {s = s} is mask) has = let v = visited m e i s has.0 in ((v.2.led e s (v.1 e s ∙ has.0)).threw _ mask).out is
  closed_by _ _ (C1 {m = m} {e = e} {i = i} {s = s} n called is) has = let v = visited m e i s has.0 in let c = v.2.called e s n (v.1 e s ∙ has.0) is called in c.2.entered e s c.1
  closed_by _ _ (C2 {m = m} {e = e} {i = i} {s = s} n called is to) has = let v = visited m e i s has.0 in let c = v.2.called e s n (v.1 e s ∙ has.0) is called in c.2.back e s _ _ c.1 has.1.0 to
  closed_by _ _ (C3 {m = m} {e = e} {i = i} {s = s} n k called is to) has = let v = visited m e i s has.0 in let c = v.2.called e s n (v.1 e s ∙ has.0) is called in (c.2.threw e s _ c.1 has.1.0).to k _ to
  closed_by _ _ (C3_leaves {m = m} {e = e} {i = i} {s = s} n called is out) has = let v = visited m e i s has.0 in let c = v.2.called e s n (v.1 e s ∙ has.0) is called in (c.2.threw e s _ c.1 has.1.0).out out

  pub least_at : (given : Set) → ((f : Fact) → given f ≡ true → holds t f ≡ true) → IsBelow (InsideBy x l) ms given t → IsLeast (Inside x l (ms x l)) given (holds t)
  least_at given kept below = least (Inside x l (ms x l)) given (holds t) kept below.by (record { by = closed_by })
