use Rattle.report_path.specs.Tests.{CaughtBy}
use Rattle.report_path.proofs.Tests.{NoneBelow}
use Rattle.report_path.proofs.spot.Spot.is_caught_at.Given as goal

abbrev pub invariant-loop-number : goal.invariant-loop-number
invariant-loop-number l = NoneBelow (CaughtBy l.self l.to) l.number
