use Rattle.std.proofs.Common.{◌≡◌, ◌+◌, ◌*◌, ◌≤◌, false, cond}
use Rattle.solution.specs.Facts.{holds, facts_room}
use Rattle.solver.specs.Turns.{AreFacts, IsBelow, InsideBy, Grown}
use Rattle.solver.specs.Visits.{AllVisited, AreLed}
use Rattle.solver.proofs.sweep.sweep_all.Given as goal

abbrev pub invariant-loop-changed : goal.invariant-loop-changed
invariant-loop-changed g l = record {
  below : IsBelow (InsideBy l.task.subject.now l.task.lock.0) (g.R.Rows.masks l.fn.rows) (holds l.fn.solution) l.solution;
  kept : Grown l.fn.solution l.solution;
  facts : AreFacts l.task.subject.now l.task.lock.0 l.solution;
  room : facts_room l.solution ≤ facts_room l.fn.solution;
  led : AreLed l.task.subject.now l.task.lock.0 (g.R.Rows.masks l.rows) l.led l.solution;
  masks : g.R.Rows.masks l.rows ≡ g.R.Rows.masks l.fn.rows;
  done : l.changed ≡ false → AllVisited l.task.subject.now l.task.lock.0 (g.R.Rows.masks l.fn.rows) l.solution;
}

abbrev pub decreases-loop-changed : goal.decreases-loop-changed
decreases-loop-changed g l = 2 * facts_room l.solution + cond l.changed 1 0
