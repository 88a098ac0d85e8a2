use Rattle.std.proofs.Common.{◌≡◌, ◌+◌, ◌*◌, false, cond}
use Rattle.flow_model.specs.Derived.{IsClosed}
use Rattle.flow_model.specs.Policy.{none_given}
use Rattle.flow_model.specs.Rules.{Inside}
use Rattle.solution.specs.Facts.{holds, facts_room}
use Rattle.solver.specs.Turns.{AreFacts, IsBelow}
use Rattle.solver.specs.Visits.{AreLed}
use Rattle.view_solver.specs.Views.{WholeBy, AllDone}
use Rattle.view_solver.proofs.solving.solve_rounds.Given as goal

abbrev pub invariant-loop-changed : goal.invariant-loop-changed
invariant-loop-changed g l = record {
  below : IsBelow (WholeBy l.task.subject.now l.task.lock.0) (g.R.Rows.masks l.fn.rows) none_given l.solution;
  facts : AreFacts l.task.subject.now l.task.lock.0 l.solution;
  led : AreLed l.task.subject.now l.task.lock.0 (g.R.Rows.masks l.rows) l.worklist l.solution;
  masks : g.R.Rows.masks l.rows ≡ g.R.Rows.masks l.fn.rows;
  inside : l.changed ≡ false → IsClosed (Inside l.task.subject.now l.task.lock.0 (g.R.Rows.masks l.fn.rows l.task.subject.now l.task.lock.0)) (holds l.solution);
  done : l.changed ≡ false → AllDone l.task.subject.now l.task.lock.0 (g.R.Rows.masks l.fn.rows) l.solution;
}

abbrev pub decreases-loop-changed : goal.decreases-loop-changed
decreases-loop-changed g l = 2 * facts_room l.solution + cond l.changed 1 0
