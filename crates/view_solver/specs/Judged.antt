-- The violations of one lock field.
use Rattle.std.specs.Prelude.{ℕ, ◌≡◌, ◌<◌, ◌+◌, ◌*◌, ◌↔◌, Bool, true, List, [], ◌∷◌, Some, AllPairs, Contains, if◌then◌else◌}
use Rattle.app_model.specs.Components.{edge_at}
use Rattle.app_model.specs.Facts.{Fact, View}
use Rattle.app_model.specs.Subject.{SubjectParts}
use Rattle.app_model.specs.declared.component.Edge.{Edge}
use Rattle.flow_model.specs.Derived.{HasAll}
use Rattle.flow_model.specs.Policy.{IsViolation, ComesBefore}
use Rattle.flow_model.specs.Rules.{Carries}
use Rattle.flow_model.specs.declared.policy.Violation.{Violation}
use Rattle.solution.specs.Facts.{Facts, holds}
use Rattle.view_solver.specs.Views.{Carried}

-- those of lock field l where facts hold by P, each once and in order
pub record AreViolationsBy (x : SubjectParts) (l : ℕ) (P : List Fact → Type 0) (violations : List Violation) : Type 0 where
  pub ordered : AllPairs ComesBefore violations
  pub exact : (v : Violation) → Contains violations v ↔ ((v.lock ≡ l) × IsViolation x (Carries x l) l P v.component v.callback v.status)

-- edge number e of component c ends callback k at status u
abbrev pub EndsBy : SubjectParts → (l : ℕ) → Facts → (c k : ℕ) → ℕ → ℕ → Type 0
EndsBy x l t c k e u = (edge : Edge) × (s : ℕ) × (edge_at x.list c e ≡ Some edge) × (edge.callback ≡ k) × (holds t (View c edge.from s) ≡ true) × Carried x l t c edge s u

abbrev pub Ends : SubjectParts → (l : ℕ) → Facts → (c k : ℕ) → ℕ → Type 0
Ends x l t c k u = (e : ℕ) × EndsBy x l t c k e u

abbrev pub Violates : SubjectParts → (l : ℕ) → Facts → (c k : ℕ) → ℕ → Type 0
Violates x l t c k s = IsViolation x (Carries x l) l (HasAll (holds t)) c k s

-- callbacks and statuses are below eight, so that violations of a lock field are in the order of these numbers
abbrev pub number_of : Violation → ℕ
number_of v = 64 * v.component + 8 * v.callback + v.status

-- the violations whose number is below n
pub record AreListed (x : SubjectParts) (l : ℕ) (t : Facts) (n : ℕ) (violations : List Violation) : Type 0 where
  pub only : (v : Violation) → Contains violations v → (v.lock ≡ l) × (number_of v < n) × Violates x l t v.component v.callback v.status
  pub there : (v : Violation) → v.lock ≡ l → number_of v < n → Violates x l t v.component v.callback v.status → Contains violations v
  pub ordered : AllPairs ComesBefore violations

abbrev pub one_if : Bool → Violation → List Violation
one_if pushed v = if pushed then v ∷ [] else []
