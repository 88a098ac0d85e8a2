use Rattle.std.proofs.Common.{arith}
use Rattle.call_reach.proofs.Assigned.{stores_more, stores_none}
use Rattle.call_reach.proofs.assigning.own_stores.Goals as goal

pub loop-method-init : goal.loop-method-init
loop-method-init c = stores_none _ _

pub loop-method-preserved : goal.loop-method-preserved
loop-method-preserved c = stores_more _ _ _ _ _ (omega (arith, c.requires, c.loop-method.auto.words, c.loop-method-test.true, c.method_count-method-end.ensures)) c.stores_of.ensures c.loop-method.invariant
