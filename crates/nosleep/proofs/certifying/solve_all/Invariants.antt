use Rattle.cert_laws.specs.Solved.{AreSolved}
use Rattle.derivation.specs.AllReports.{AreGathered}
use Rattle.nosleep.proofs.certifying.solve_all.Given as goal

abbrev pub invariant-loop-lock : goal.invariant-loop-lock
invariant-loop-lock l = record {
  parts : AreSolved l.subject l.lock l.parts.items;
  reports : AreGathered l.subject l.lock l.reports.items;
}
