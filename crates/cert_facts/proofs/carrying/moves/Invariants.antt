use Rattle.solution.specs.Words.{IsMask, Below}
use Rattle.cert_facts.specs.Moves.{MovesBy}
use Rattle.cert_facts.proofs.carrying.moves.Given as goal

abbrev pub invariant-loop-number : goal.invariant-loop-number
invariant-loop-number l = IsMask (Below (MovesBy l.task l.component.0 l.status) l.number) l.mask
