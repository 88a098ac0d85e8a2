-- What the theorem says of the state in which a run stands.
use Rattle.std.specs.Prelude.{ℕ, ◌≡◌, ◌<◌, true, false, Some, Contains}
use Rattle.app_model.specs.declared.component.Edge.{Edge}
use Rattle.app_model.specs.Components.{edge_at, exits_at}
use Rattle.app_model.specs.Masks.{in_mask, is_held}
use Rattle.app_model.specs.Subject.{SubjectParts, answers_at}
use Rattle.app_model.specs.CallGraph.{TargetParts}
use Rattle.app_model.specs.Targets.{method_no}
use Rattle.run_model.specs.Heaps.{Heap, lock_at, status}
use Rattle.run_model.specs.Frames.{Callback, State, Idle, Running, AtEnd, Over}
use Rattle.run_model.specs.Calls.{Target, Enters, GoesOutside, IsStuck}
use Rattle.run_model.specs.Relation.{NoEscape}

-- at an exit of a component that answers for l, no lock of l is held
abbrev pub ExitsWell : SubjectParts → ℕ → Callback → Heap → Type 0
ExitsWell x l at h =
    (edge : Edge) → edge_at x.list at.component at.edge ≡ Some edge → in_mask (exits_at x.list at.component) edge.callback ≡ true
    → answers_at x at.component l ≡ true → is_held (status h l) ≡ false

-- the machine stands at no exit of a component that answers for l with a held status of l, and no lock has escaped
abbrev pub StandsWell : SubjectParts → ℕ → State → Type 0
StandsWell x l (Idle states h) = Unit {0}
StandsWell x l (Running at h frames) = Unit {0}
StandsWell x l (AtEnd at h) = ExitsWell x l at h
StandsWell x l (Over why) = NoEscape why

-- lock field l owns a lock whose count is above zero
pub record HoldsLock (h : Heap) (l : ℕ) : Type 0 where
  pub lock : ℕ
  pub owner : (lock_at h lock).owner ≡ Some l
  pub count : 0 < (lock_at h lock).count

-- the same by counts: at no exit of a component that answers for l is a lock of l held
abbrev pub LeavesNoneHeld : SubjectParts → ℕ → State → Type 0
LeavesNoneHeld x l (Idle states h) = Unit {0}
LeavesNoneHeld x l (Running at h frames) = Unit {0}
LeavesNoneHeld x l (AtEnd at h) =
    (edge : Edge) → edge_at x.list at.component at.edge ≡ Some edge → in_mask (exits_at x.list at.component) edge.callback ≡ true
    → answers_at x at.component l ≡ true → ¬ HoldsLock h l
LeavesNoneHeld x l (Over why) = Unit {0}

-- where a call leads is among its targets in the call graph
abbrev pub FitsTarget : TargetParts → Target → Type 0
FitsTarget row (Enters n) = Contains row.callees (method_no n)
FitsTarget row GoesOutside = row.outside ≡ true
FitsTarget row IsStuck = Unit {0}
