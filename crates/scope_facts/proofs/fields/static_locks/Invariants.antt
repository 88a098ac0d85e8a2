use Rattle.scope_facts.specs.Bits.{HoldsBelow, Tells}
use Rattle.scope_facts.specs.Fields.{IsStatic}
use Rattle.scope_facts.proofs.BitLaws.{At}
use Rattle.scope_facts.proofs.fields.static_locks.Given as goal

abbrev pub invariant-loop-l : goal.invariant-loop-l
invariant-loop-l l = Tells l.statics (HoldsBelow l.l (At (IsStatic l.app)))
