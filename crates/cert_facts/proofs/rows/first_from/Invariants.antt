use Rattle.std.proofs.Common.{◌-◌}
use Rattle.cert_facts.proofs.Sought.{IsBetween}
use Rattle.cert_facts.proofs.rows.first_from.Given as goal

abbrev pub invariant-loop-low : goal.invariant-loop-low
invariant-loop-low g l = IsBetween g.R.Ranked.number l.bound l.rows l.low l.high

abbrev pub decreases-loop-low : goal.decreases-loop-low
decreases-loop-low g l = l.high - l.low
