use Rattle.std.proofs.Common.{◌≡◌}
use Rattle.std.specs.Prelude.{flat_map}
use Rattle.solution.specs.Facts.{holds}
use Rattle.certificate.specs.Solved.{method_bodies, numbers_below}
use Rattle.certificate.proofs.solved.bodies.Given as goal

abbrev pub invariant-loop-method : goal.invariant-loop-method
invariant-loop-method l = l.rows.items ≡ flat_map (method_bodies l.subject (holds l.solution)) (numbers_below l.method)
