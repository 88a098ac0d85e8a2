use Rattle.std.proofs.Common.{◌≡◌, true}
use Rattle.solution.specs.Words.{has, IsMask, Below}
use Rattle.solution.proofs.words.all_of.Given as goal

abbrev pub invariant-loop-entry : goal.invariant-loop-entry
invariant-loop-entry l = IsMask (Below (λ e t. has l.word e t ≡ true) l.entry) l.out
