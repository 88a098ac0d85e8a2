use Rattle.std.proofs.Common.{arith}
use Rattle.call_reach.proofs.Assigned.{own_more, own_none, own_whole}
use Rattle.call_reach.proofs.assigning.stores_of.Goals as goal

pub loop-index-init : goal.loop-index-init
loop-index-init c = own_none c.args.app.now c.args.method.0

pub loop-index-preserved : goal.loop-index-preserved
loop-index-preserved c = own_more c.args.app.now c.args.method.0 c.loop-index.index c.loop-index.mask c.store_at-mask.result c.loop-index.invariant c.store_at-mask.ensures

pub returns : goal.returns
returns c = own_whole c.args.app.now c.args.method.0 c.loop-index.index c.loop-index.mask (omega (arith, c.loop-index-test.false, c.code_len-index-end.ensures)) c.loop-index.invariant
