use Rattle.call_reach.proofs.Assigned.{AreOwn}
use Rattle.call_reach.proofs.assigning.stores_of.Given as goal

abbrev pub invariant-loop-index : goal.invariant-loop-index
invariant-loop-index l = AreOwn l.app l.method.0 l.index l.mask
