use Rattle.std.proofs.Common.{◌≡◌, map}
use Rattle.std.specs.Prelude.{take}
use Rattle.report_path.specs.Reports.{violation_of}
use Rattle.nosleep.proofs.judging.bare_reports.Given as goal

abbrev pub invariant-loop-i : goal.invariant-loop-i
invariant-loop-i l = map violation_of l.reports.items ≡ take l.i l.violations
