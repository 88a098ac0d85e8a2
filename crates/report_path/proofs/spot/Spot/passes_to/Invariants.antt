use Rattle.report_path.specs.Tests.{PassesBy}
use Rattle.report_path.proofs.Tests.{NoneBelow}
use Rattle.report_path.proofs.spot.Spot.passes_to.Given as goal

abbrev pub invariant-loop-number : goal.invariant-loop-number
invariant-loop-number l = NoneBelow (PassesBy l.self l.to l.status) l.number
