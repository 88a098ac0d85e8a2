use Rattle.std.proofs.Common.{◌≡◌}
use Rattle.report_text.specs.Reports.{reports_before}
use Rattle.report_text.proofs.reports.all_parts.Given as goal

abbrev pub invariant-loop-i : goal.invariant-loop-i
invariant-loop-i l = l.text.items ≡ reports_before l.subject.app l.subject.list l.reports l.i
