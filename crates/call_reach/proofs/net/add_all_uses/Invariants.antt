use Rattle.std.proofs.Common.{length}
use Rattle.call_reach.specs.Net.{Adds, Before, UsesIn}
use Rattle.call_reach.proofs.net.add_all_uses.Given as goal

abbrev pub invariant-loop-method : goal.invariant-loop-method
invariant-loop-method l = Adds (Before (UsesIn l.graph l.way (length l.app.methods)) l.method) l.fn.links l.links
