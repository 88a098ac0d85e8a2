use Rattle.std.proofs.Common.{take}
use Rattle.derivation.specs.AllReports.{AreReportsOf}
use Rattle.derivation.proofs.reporting.report_all.Given as goal

abbrev pub invariant-loop-k : goal.invariant-loop-k
invariant-loop-k l = AreReportsOf l.subject (take l.k l.found) l.reports.items
