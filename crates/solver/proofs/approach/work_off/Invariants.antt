use Rattle.solver.specs.Visits.{Nears}
use Rattle.solver.proofs.approach.work_off.Given as goal

abbrev pub invariant-loop : goal.invariant-loop
invariant-loop g l = Nears l.task.subject.now l.task.lock.0 (g.R.Rows.masks l.fn.rows) (g.R.Rows.masks l.rows) l.fn.solution l.solution l.led
