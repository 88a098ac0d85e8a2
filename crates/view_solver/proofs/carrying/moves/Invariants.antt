use Rattle.solution.specs.Words.{AreRows}
use Rattle.view_solver.specs.Views.{MovesBelow}
use Rattle.view_solver.proofs.carrying.moves.Given as goal

abbrev pub invariant-loop-number : goal.invariant-loop-number
invariant-loop-number l = AreRows (MovesBelow l.subject l.lock.0 l.solution l.component.0 l.number) 8 l.word
