use Rattle.std.proofs.Common.{◌<◌, ℕ}
use Rattle.report_path.specs.Reports.{RightBody}
use Rattle.report_path.proofs.checking.wrong_body.Given as goal

abbrev pub invariant-loop-k : goal.invariant-loop-k
invariant-loop-k l = (k : ℕ) → k < l.k → RightBody l.subject l.lock.0 l.bodies k
