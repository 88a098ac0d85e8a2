-- Sets that are closed under all rules.
use Rattle.std.proofs.Common.{◌≡◌, ℕ, true, List, [], ◌∷◌, sym, subst, inl, inr}
use Rattle.app_model.specs.Facts.{Fact, View}
use Rattle.app_model.specs.Subject.{SubjectParts}
use Rattle.flow_model.specs.Derived.{Set, Derived, by_rule, all_done, HasAll, IsClosed, IsLeast}
use Rattle.flow_model.specs.Policy.{none_given}
use Rattle.flow_model.specs.Rules.{Inside, Starts, Between, Carries, V1, V2, V3, V4, V5}
use Rattle.flow_model.proofs.Laws.{least, derived_again, wider}
use Rattle.solution.specs.Facts.{Facts, holds}
use Rattle.solution.proofs.Facts.{view_place}
use Rattle.solver.specs.Turns.{AllMasks, AreFacts, IsBelow, InsideBy, Keeps}
use Rattle.solver.proofs.Turns.{all_derived}
use Rattle.solver.proofs.Closed.{given_below}
use Rattle.view_solver.specs.Views.{Whole, WholeBy, AllDone, ComponentDone}

-- the least solution is closed
pub least_closed : (rules : List Fact → Fact → Type 0) (given set : Set) → IsLeast rules given set → IsClosed rules set
least_closed rules given set is = record { by = λ needs f rule held. is.complete f (by_rule rule (all_derived rules given set is.sound needs held) all_done) }

-- what is derived inside callbacks is derived by all rules
pub whole_below : (x : SubjectParts) (l : ℕ) (ms : AllMasks) (given : Set) (old new : Facts) → IsBelow (WholeBy x l) ms given old → ((f : Fact) → holds new f ≡ true → Derived (Inside x l (ms x l)) (holds old) (f ∷ [])) → IsBelow (WholeBy x l) ms given new
whole_below x l ms given old new below sound = record { by = λ f h. derived_again (WholeBy x l ms) given (holds old) below.by (wider (Inside x l (ms x l)) (WholeBy x l ms) (λ needs g r. inl (inl r)) (holds old) (sound f h)) }

-- what keeps by the rules inside callbacks, keeps by all
pub whole_keeps : (x : SubjectParts) (l : ℕ) (k n : AllMasks) (old new : Facts) → Keeps (InsideBy x l) k n old new → Keeps (WholeBy x l) k n old new
whole_keeps x l k n old new keeps = record {
  masks = keeps.masks;
  below = λ given h. whole_below x l k given old new h (keeps.below (holds old) (given_below (InsideBy x l) k old)).by;
  kept = keeps.kept;
  size = keeps.size;
  room = keeps.room;
}

module _ (x : SubjectParts) (l : ℕ) (ms : AllMasks) (t : Facts) (facts : AreFacts x l t) (inside : IsClosed (Inside x l (ms x l)) (holds t)) (done : AllDone x l ms t) where
  component_done : (c q s : ℕ) → holds t (View c q s) ≡ true → ComponentDone x l c ms t
  component_done c q s h = done c (rw facts.places.views at (view_place t c q s h))

  started : (needs : List Fact) (f : Fact) → Starts x l needs f → HasAll (holds t) needs → holds t f ≡ true
  started _ _ (V3 {c = c} {q = q} {s = s} {m = m} {edge = edge} e there from called) held =
      ((component_done c q s held.0).edges e edge there).started s m (subst (λ n. holds t (View c n s) ≡ true) (sym from) held.0) called

  between : (needs : List Fact) (f : Fact) → Between x (Carries x l) needs f → HasAll (holds t) needs → holds t f ≡ true
  between _ _ (V1 {c = c} lt) held = (done c lt).begun
  between _ _ (V2 {c = c} {q = q} {s = s} {t = u} {to = to} {edge = edge} {needs = needs} e there from at none carries) held =
      subst (λ n. holds t (View c n u) ≡ true) at
      (((component_done c q s held.0).edges e edge there).moved s u (subst (λ n. holds t (View c n s) ≡ true) (sym from) held.0) (needs, carries, held.1))
  between _ _ (V4 {c = c} {q = q} {s = s} {t = u} {to = to} {edge = edge} {needs = needs} e m there from at called carries) held =
      subst (λ n. holds t (View c n u) ≡ true) at
      (((component_done c q s held.0).edges e edge there).moved s u (subst (λ n. holds t (View c n s) ≡ true) (sym from) held.0) (needs, carries, held.1))
  between _ _ (V5 {c = c} {q = q} {d = d} {p = p} {s = s} {t = u} {edge = edge} {needs = needs} e ne there from carries) held =
      (component_done d p s held.1.0).told c q s u (rw facts.places.views at (view_place t c q s held.0)) ne held.0
      (e, (edge, there, subst (λ n. holds t (View d n s) ≡ true) (sym from) held.1.0, (needs, carries, held.1.1)))

  whole_closed : (needs : List Fact) (f : Fact) → Whole x l (ms x l) needs f → HasAll (holds t) needs → holds t f ≡ true
  whole_closed needs f (inl (inl r)) held = inside.by needs f r held
  whole_closed needs f (inl (inr r)) held = started needs f r held
  whole_closed needs f (inr r) held = between needs f r held

  pub whole_least : IsBelow (WholeBy x l) ms none_given t → IsLeast (Whole x l (ms x l)) none_given (holds t)
  whole_least below = least (Whole x l (ms x l)) none_given (holds t) (λ f is. absurd (cc)) below.by (record { by = whole_closed })
