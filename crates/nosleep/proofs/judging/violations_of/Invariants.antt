use Rattle.std.proofs.Common.{◌≡◌, map}
use Rattle.std.specs.Prelude.{take}
use Rattle.report_path.specs.Reports.{violation_of}
use Rattle.nosleep.proofs.judging.violations_of.Given as goal

abbrev pub invariant-loop-i : goal.invariant-loop-i
invariant-loop-i l = l.found.items ≡ map violation_of (take l.i l.reports)
