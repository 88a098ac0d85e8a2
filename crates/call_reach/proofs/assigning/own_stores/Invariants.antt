use Rattle.call_reach.specs.Starts.{AreStores}
use Rattle.call_reach.proofs.assigning.own_stores.Given as goal

abbrev pub invariant-loop-method : goal.invariant-loop-method
invariant-loop-method l = AreStores l.app l.method l.fn.words l.words
