use Rattle.solution.specs.Words.{IsMask, Below}
use Rattle.view_solver.specs.Judged.{EndsBy}
use Rattle.view_solver.proofs.judging.ends.Given as goal

abbrev pub invariant-loop-number : goal.invariant-loop-number
invariant-loop-number l = IsMask (Below (EndsBy l.subject l.lock.0 l.solution l.component.0 l.callback) l.number) l.mask
