use Rattle.std.proofs.Common.{◌-◌}
use Rattle.report_path.proofs.Pcs.{IsBetween}
use Rattle.report_path.proofs.places.first_from.Given as goal

abbrev pub invariant-loop-low : goal.invariant-loop-low
invariant-loop-low l = IsBetween l.app l.method.0 l.pc l.low l.high

abbrev pub decreases-loop-low : goal.decreases-loop-low
decreases-loop-low l = l.high - l.low
