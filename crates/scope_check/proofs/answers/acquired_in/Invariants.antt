use Rattle.scope_check.specs.Answering.{AcquiresAt}
use Rattle.scope_facts.specs.Bits.{HoldsBelow, Tells}
use Rattle.scope_check.proofs.answers.acquired_in.Given as goal

abbrev pub invariant-loop-index : goal.invariant-loop-index
invariant-loop-index l = Tells l.mask (HoldsBelow l.index (AcquiresAt l.survey.case l.method.0))
