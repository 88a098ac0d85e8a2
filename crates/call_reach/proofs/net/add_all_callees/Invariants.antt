use Rattle.call_reach.specs.Net.{Adds, Before, HasIn}
use Rattle.call_reach.proofs.net.add_all_callees.Given as goal

abbrev pub invariant-loop-set : goal.invariant-loop-set
invariant-loop-set l = Adds (Before (HasIn l.graph l.way l.methods) l.set) l.fn.links l.links
