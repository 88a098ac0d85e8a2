use Rattle.solution.specs.Facts.{holds}
use Rattle.derivation.specs.AllReports.{AreReportsOf}
use Rattle.derivation.proofs.Each.{all_logged, all_reports}
use Rattle.derivation.proofs.reporting.derive_from.Goals as goal

pub report_all-requires-clause-logged : goal.report_all-requires-clause-logged
report_all-requires-clause-logged c =
    let r = c.requires in
    rw c.deref.ensures.value (all_logged c.args.subject.now c.args.lock.0 c.args.log.now.lines.items c.args.log.now.views.items (holds c.args.solution.now) r.right r.covers c.in_ok-found.found.items c.in_ok-found.ensures.exact)

pub returns-in-Ok : goal.returns-in-Ok
returns-in-Ok c =
    let r = c.requires in
    let of : AreReportsOf c.args.subject.now c.in_ok-found.found.items c.in-Ok.reports.items = rw c.deref.ensures.value at c.in-Ok.ensures in
    all_reports c.args.subject.now c.args.lock.0 c.args.log.now.lines.items c.args.log.now.views.items (holds c.args.solution.now) r.right r.covers c.in_ok-found.found.items c.in_ok-found.ensures.exact c.in-Ok.reports.items (c.in_ok-found.ensures.derivable r.least) of
