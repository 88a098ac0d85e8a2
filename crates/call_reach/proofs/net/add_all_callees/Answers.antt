use Rattle.std.proofs.Common.{arith}
use Rattle.call_reach.specs.Net.{HasIn}
use Rattle.call_reach.proofs.Adding.{adds_more, haves_whole}
use Rattle.call_reach.proofs.net.add_all_callees.Goals as goal

pub loop-set-preserved : goal.loop-set-preserved
loop-set-preserved c =
    adds_more (HasIn c.args.graph.now c.args.way c.args.methods) c.loop-set.set c.args.links.now c.loop-set.links c.add_callees.new.links c.loop-set.invariant c.in_ok-add_callees.ensures

pub returns : goal.returns
returns c = haves_whole c.args.graph.now c.args.way c.args.methods c.loop-set.set c.args.links.now c.loop-set.links (omega (arith, c.loop-set-test.false, c.set_count-set-end.ensures.count)) c.loop-set.invariant
