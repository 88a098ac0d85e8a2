use Rattle.solution.specs.Words.{AreRows, JoinedBelow}
use Rattle.solution.proofs.words.join.Given as goal

abbrev pub invariant-loop-status : goal.invariant-loop-status
invariant-loop-status l = AreRows (JoinedBelow l.a l.b l.status) 8 l.word
