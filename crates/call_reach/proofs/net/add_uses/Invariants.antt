use Rattle.std.proofs.Common.{length}
use Rattle.call_reach.specs.Net.{Adds, Before, UsesAt}
use Rattle.call_reach.proofs.net.add_uses.Given as goal

abbrev pub invariant-loop-index : goal.invariant-loop-index
invariant-loop-index l = Adds (Before (UsesAt l.graph l.way (length l.app.methods) l.method) l.index) l.fn.links l.links
