-- The violations of all lock fields, in the order of reports.
use Rattle.std.specs.Prelude.{ℕ, ◌≡◌, ◌<◌, ◌+◌, ◌*◌, List, [], length, AllPairs, Contains, slice_index, slice_index_or}
use Rattle.app_model.specs.Subject.{SubjectParts}
use Rattle.flow_model.specs.Derived.{IsLeast, Set}
use Rattle.flow_model.specs.Policy.{ComesBefore, IsDerivableViolation, none_given}
use Rattle.flow_model.specs.Rules.{Rules}
use Rattle.flow_model.specs.declared.policy.Violation.{Violation}
use Rattle.solution.specs.Facts.{Facts}
use Rattle.solution.specs.Words.{IsMask}
use Rattle.view_solver.specs.Judged.{Violates}

-- ---- masks of the statuses at which callbacks end badly: eight a component, one for each callback
-- of the facts of one lock field, below number n
pub record AreMasksTo (x : SubjectParts) (l : ℕ) (t : Facts) (n : ℕ) (masks : List ℕ) : Type 0 where
  pub len : length masks ≡ n
  pub each : (c k : ℕ) → k < 8 → 8 * c + k < n → IsMask (Violates x l t c k) (slice_index masks (8 * c + k))

-- the least solution of the rules for a lock field
abbrev pub HasLeast : SubjectParts → ℕ → Type 0
HasLeast x l = (set : Set) × IsLeast (Rules x l) none_given set

-- of what the rules derive for it
pub record AreLockMasks (x : SubjectParts) (l : ℕ) (masks : List ℕ) : Type 0 where
  pub len : length masks ≡ 8 * length x.list
  pub each : (c k : ℕ) → k < 8 → 8 * c + k < 8 * length x.list → IsMask (IsDerivableViolation x l c k) (slice_index masks (8 * c + k))
  pub least : HasLeast x l

-- of the first n lock fields
pub record AreAllMasks (x : SubjectParts) (n : ℕ) (all : List (List ℕ)) : Type 0 where
  pub len : length all ≡ n
  pub each : (l : ℕ) → l < n → AreLockMasks x l (slice_index_or all l [])

-- ---- callbacks and statuses are below eight, lock fields below 64, so that reports are in the order of these numbers
abbrev pub report_number : Violation → ℕ
report_number v = 4096 * v.component + 512 * v.callback + 8 * v.lock + v.status

-- the violations whose number is below n
pub record AreReported (x : SubjectParts) (n : ℕ) (violations : List Violation) : Type 0 where
  pub only : (v : Violation) → Contains violations v → (report_number v < n) × IsDerivableViolation x v.lock v.component v.callback v.status
  pub there : (v : Violation) → report_number v < n → IsDerivableViolation x v.lock v.component v.callback v.status → Contains violations v
  pub ordered : AllPairs ComesBefore violations
