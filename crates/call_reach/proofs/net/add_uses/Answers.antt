use Rattle.std.proofs.Common.{ℕ, length, subst, arith}
use Rattle.call_reach.specs.Net.{Adds, UsesAt}
use Rattle.call_reach.proofs.Adding.{adds_more, uses_whole}
use Rattle.call_reach.proofs.net.add_uses.Goals as goal

pub loop-index-preserved : goal.loop-index-preserved
loop-index-preserved c =
    adds_more (UsesAt c.args.graph.now c.args.way (length c.args.app.now.methods) c.args.method) c.loop-index.index c.args.links.now c.loop-index.links c.add_use.new.links c.loop-index.invariant
    (subst (λ (n : ℕ). Adds (UsesAt c.args.graph.now c.args.way n c.args.method c.loop-index.index) c.loop-index.links c.add_use.new.links) c.method_count-methods.ensures c.in_ok-add_use.ensures)

pub returns : goal.returns
returns c =
    uses_whole c.args.app.now c.args.graph.now c.requires.fits c.args.way c.args.method c.loop-index.index c.args.links.now c.loop-index.links (omega (arith, c.loop-index-test.false, c.code_len-index-end.ensures)) c.loop-index.invariant
