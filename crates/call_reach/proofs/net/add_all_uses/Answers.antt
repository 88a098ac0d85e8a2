use Rattle.std.proofs.Common.{length, arith}
use Rattle.call_reach.specs.Net.{UsesIn}
use Rattle.call_reach.proofs.Adding.{adds_more, all_uses_whole}
use Rattle.call_reach.proofs.net.add_all_uses.Goals as goal

pub loop-method-preserved : goal.loop-method-preserved
loop-method-preserved c =
    adds_more (UsesIn c.args.graph.now c.args.way (length c.args.app.now.methods)) c.loop-method.method c.args.links.now c.loop-method.links c.add_uses.new.links c.loop-method.invariant c.in_ok-add_uses.ensures

pub returns : goal.returns
returns c =
    all_uses_whole c.args.app.now c.args.graph.now c.requires.fits c.args.way c.loop-method.method c.args.links.now c.loop-method.links (omega (arith, c.loop-method-test.false, c.method_count-method-end.ensures)) c.loop-method.invariant
