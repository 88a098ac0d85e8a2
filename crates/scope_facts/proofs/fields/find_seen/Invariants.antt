use Rattle.scope_facts.specs.Bits.{HoldsBelow, Tells}
use Rattle.scope_facts.specs.Fields.{AccessesIn, InReached, MakesIn}
use Rattle.scope_facts.proofs.fields.find_seen.Given as goal

abbrev pub invariant-loop-method : goal.invariant-loop-method
invariant-loop-method l = record {
  accessed : Tells l.accessed (HoldsBelow l.method (InReached l.reached (AccessesIn l.app)));
  made : Tells l.made (HoldsBelow l.method (InReached l.reached (MakesIn l.app)));
}
