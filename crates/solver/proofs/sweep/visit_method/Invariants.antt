use Rattle.solver.specs.Turns.{Each, Step}
use Rattle.solver.specs.Visits.{IsVisited}
use Rattle.solver.proofs.sweep.visit_method.Given as goal

abbrev pub invariant-loop-index : goal.invariant-loop-index
invariant-loop-index g l = Step l.task.subject.now l.task.lock.0 (Each (IsVisited l.task.subject.now l.task.lock.0 l.method.0) l.index) (g.R.Rows.masks l.fn.rows) (g.R.Rows.masks l.rows) l.fn.solution l.solution l.changed
