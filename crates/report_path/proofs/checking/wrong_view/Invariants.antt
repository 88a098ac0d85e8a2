use Rattle.report_path.specs.Tests.{case_in}
use Rattle.std.proofs.Common.{◌<◌, ℕ}
use Rattle.report_path.specs.Reports.{RightView}
use Rattle.report_path.proofs.checking.wrong_view.Given as goal

abbrev pub invariant-loop-k : goal.invariant-loop-k
invariant-loop-k l = (k : ℕ) → k < l.k → RightView (case_in l.task) l.views k
