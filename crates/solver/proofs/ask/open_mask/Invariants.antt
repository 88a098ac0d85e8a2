use Rattle.solution.specs.Words.{IsMask, Below}
use Rattle.solver.specs.Visits.{Opens}
use Rattle.solver.proofs.ask.open_mask.Given as goal

abbrev pub invariant-loop-status : goal.invariant-loop-status
invariant-loop-status l = IsMask (Below (Opens l.task.subject.now l.task.lock.0 l.site.method.0 l.site.index l.seen) l.status) l.mask
