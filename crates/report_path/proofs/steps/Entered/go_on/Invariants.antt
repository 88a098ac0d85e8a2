use Rattle.std.proofs.Common.{◌<◌, ℕ}
use Rattle.report_path.specs.Paths.{GoesOn, end_fact}
use Rattle.report_path.proofs.steps.Entered.go_on.Given as goal

abbrev pub invariant-loop-k : goal.invariant-loop-k
invariant-loop-k l = (k : ℕ) → k < l.k → GoesOn l.self l.steps (end_fact l.thrown l.self.method l.self.status l.exit) k
