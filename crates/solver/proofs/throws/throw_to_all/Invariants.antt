use Rattle.solver.specs.Turns.{Each}
use Rattle.solution.specs.Facts.{SameSize}
use Rattle.solver.specs.Visits.{WhereThrown, ThrownTo}
use Rattle.solver.proofs.throws.throw_to_all.Given as goal

abbrev pub invariant-loop-number : goal.invariant-loop-number
invariant-loop-number l = record {
  turn : WhereThrown l.task.subject.now l.task.lock.0 l.site.method.0 l.site.index l.thrown (Each (ThrownTo l.task.subject.now l.site.method.0 l.site.index l.thrown) l.number) l.fn.solution l.solution l.changed;
  size : SameSize l.fn.solution l.solution;
}
