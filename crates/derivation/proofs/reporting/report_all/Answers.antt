use Rattle.derivation.proofs.Each.{one_more_report}
use Rattle.derivation.proofs.reporting.report_all.Goals as goal

pub report_for-requires-clause-logged : goal.report_for-requires-clause-logged
report_for-requires-clause-logged c = c.requires.logged c.loop-k.k c.violation_at-bad.result c.violation_at-bad.ensures

pub loop-k-preserved : goal.loop-k-preserved
loop-k-preserved c =
    rw c.in_ok-push.ensures.items (one_more_report c.args.subject.now c.args.found.now c.loop-k.k c.violation_at-bad.result c.loop-k.reports.items c.in_ok-report.report c.violation_at-bad.ensures c.loop-k.invariant c.in_ok-report.ensures)
