use Rattle.solver.specs.Turns.{Each, Step}
use Rattle.solver.specs.Visits.{MethodVisited}
use Rattle.solver.proofs.sweep.rise.Given as goal

abbrev pub invariant-loop-method : goal.invariant-loop-method
invariant-loop-method g l = Step l.task.subject.now l.task.lock.0 (Each (MethodVisited l.task.subject.now l.task.lock.0) l.method) (g.R.Rows.masks l.fn.rows) (g.R.Rows.masks l.rows) l.fn.solution l.solution l.changed
