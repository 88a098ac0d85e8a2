use Rattle.solver.specs.Turns.{Each, LastingStep}
use Rattle.solver.specs.Visits.{SuccessorPassed}
use Rattle.solver.proofs.visit.pass_on.Given as goal

abbrev pub invariant-loop-number : goal.invariant-loop-number
invariant-loop-number g l = LastingStep l.task.subject.now l.task.lock.0 (Each (SuccessorPassed l.task.subject.now l.task.lock.0 l.site.method.0 l.site.index l.word) l.number) (g.R.Rows.masks l.fn.rows) (g.R.Rows.masks l.rows) l.fn.solution l.solution l.changed
