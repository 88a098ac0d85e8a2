use Rattle.solution.specs.Words.{IsMask, Below, Leads}
use Rattle.solution.proofs.words.lead.Given as goal

abbrev pub invariant-loop-status : goal.invariant-loop-status
invariant-loop-status l = IsMask (Below (Leads l.mask l.word) l.status) l.out
