use Rattle.scope_facts.specs.Bits.{HoldsBelow, Tells}
use Rattle.scope_facts.specs.Texts.{IsBelowLock}
use Rattle.scope_facts.proofs.BitLaws.{At}
use Rattle.scope_facts.proofs.kinds.above_of.Given as goal

abbrev pub invariant-loop-l : goal.invariant-loop-l
invariant-loop-l l = Tells l.above (HoldsBelow l.l (At (IsBelowLock l.app l.kind.0)))
