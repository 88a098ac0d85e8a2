use Rattle.solution.specs.Words.{AreRows}
use Rattle.solution.specs.Facts.{holds}
use Rattle.certificate.specs.Solved.{BodyFact}
use Rattle.certificate.proofs.solved.facts_of.Given as goal

abbrev pub invariant-loop-index : goal.invariant-loop-index
invariant-loop-index l = AreRows (BodyFact (holds l.solution) l.code.method.0 l.index) 8 l.facts
