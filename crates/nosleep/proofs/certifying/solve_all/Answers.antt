use Rattle.std.proofs.Common.{List, ◌+◌, sym, subst}
use Rattle.certificate.specs.Parts.{LockRows}
use Rattle.cert_laws.specs.Solved.{AreSolved}
use Rattle.derivation.proofs.Gathered.{none_gathered}
use Rattle.nosleep.proofs.certifying.solve_all.Goals as goal

pub loop-lock-init : goal.loop-lock-init
loop-lock-init c = record {
  parts = rw c.new-parts.ensures.items (c.written_certificates.ensures.none c.args.subject.now);
  reports = rw c.new-reports.ensures.items (none_gathered c.args.subject.now);
}

pub loop-lock-preserved : goal.loop-lock-preserved
loop-lock-preserved c = record {
  parts = subst (λ (ps : List LockRows). AreSolved c.args.subject.now (c.loop-lock.lock + 1) ps) (sym c.in_ok-push-in-Ok.ensures.items) (c.written_certificates.ensures.next c.args.subject.now c.loop-lock.lock c.loop-lock.parts.items _ c.loop-lock.invariant.parts c.in-Ok.ensures.part);
  reports = c.in-Ok.ensures.reports;
}
