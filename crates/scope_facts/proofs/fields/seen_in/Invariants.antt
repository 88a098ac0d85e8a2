use Rattle.scope_facts.specs.Bits.{HoldsBelow, Tells}
use Rattle.scope_facts.specs.Fields.{Accesses, Makes}
use Rattle.scope_facts.proofs.fields.seen_in.Given as goal

abbrev pub invariant-loop-index : goal.invariant-loop-index
invariant-loop-index l = record {
  accessed : Tells l.accessed (HoldsBelow l.index (Accesses l.app l.method.0));
  made : Tells l.made (HoldsBelow l.index (Makes l.app l.method.0));
}
