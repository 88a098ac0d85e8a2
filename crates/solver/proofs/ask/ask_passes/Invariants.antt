use Rattle.std.proofs.Common.{◌≡◌}
use Rattle.solution.specs.Words.{AreRows}
use Rattle.solver.specs.Visits.{Asked}
use Rattle.solver.proofs.ask.ask_passes.Given as goal

abbrev pub invariant-loop-status : goal.invariant-loop-status
invariant-loop-status g l = record {
  masks : AreRows (Asked ((g.R.Rows.masks l.fn.rows l.task.subject.now l.task.lock.0).passes l.site.method.0 l.site.index l.number) l.seen) l.status l.word;
  same : g.R.Rows.masks l.rows ≡ g.R.Rows.masks l.fn.rows;
}
