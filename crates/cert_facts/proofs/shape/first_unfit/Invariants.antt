use Rattle.std.proofs.Common.{ℕ, ◌<◌}
use Rattle.std.specs.Prelude.{slice_get}
use Rattle.cert_facts.specs.Shape.{FitsAt}
use Rattle.cert_facts.proofs.shape.first_unfit.Given as goal

abbrev pub invariant-loop-lock : goal.invariant-loop-lock
invariant-loop-lock l = (k : ℕ) → k < l.lock → FitsAt l.subject k (slice_get l.parts k)
