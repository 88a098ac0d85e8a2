use Rattle.solver.specs.Turns.{Each, Still}
use Rattle.solver.specs.Visits.{CalleeDone}
use Rattle.solver.proofs.calls.call_each.Given as goal

abbrev pub invariant-loop-number : goal.invariant-loop-number
invariant-loop-number l = Still l.task.subject.now l.task.lock.0 (Each (CalleeDone l.task.subject.now l.site.method.0 l.site.index l.opened) l.number) l.fn.solution l.solution l.changed
