use Rattle.scope_facts.specs.Bits.{HoldsBelow, Tells}
use Rattle.scope_facts.specs.Fields.{IsFaulty}
use Rattle.scope_facts.proofs.BitLaws.{At}
use Rattle.scope_facts.proofs.fields.faulty_locks.Given as goal

abbrev pub invariant-loop-l : goal.invariant-loop-l
invariant-loop-l l = Tells l.faulty (HoldsBelow l.l (At (IsFaulty l.case l.made)))
