use Rattle.std.proofs.Common.{◌+◌, ◌*◌, cond}
use Rattle.solution.specs.Facts.{facts_room}
use Rattle.solver.specs.Turns.{Keeps}
use Rattle.solver.specs.Visits.{AreLed}
use Rattle.view_solver.specs.Views.{WholeBy}
use Rattle.view_solver.proofs.solving.approach_rounds.Given as goal

abbrev pub invariant-loop-changed : goal.invariant-loop-changed
invariant-loop-changed g l = record {
  keeps : Keeps (WholeBy l.task.subject.now l.task.lock.0) (g.R.Rows.masks l.fn.rows) (g.R.Rows.masks l.rows) l.fn.solution l.solution;
  led : AreLed l.task.subject.now l.task.lock.0 (g.R.Rows.masks l.rows) l.worklist l.solution;
}

abbrev pub decreases-loop-changed : goal.decreases-loop-changed
decreases-loop-changed g l = 2 * facts_room l.solution + cond l.changed 1 0
