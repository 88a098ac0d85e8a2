use Rattle.scope_check.specs.Answering.{MethodHas}
use Rattle.scope_facts.specs.Bits.{HoldsBelow, Tells}
use Rattle.scope_check.proofs.answers.answers_of.Given as goal

abbrev pub invariant-loop-k : goal.invariant-loop-k
invariant-loop-k l = Tells l.mask (HoldsBelow l.k (MethodHas l.below l.methods))
