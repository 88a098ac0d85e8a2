use Rattle.call_reach.specs.Net.{Adds, Before, HasAt}
use Rattle.call_reach.proofs.net.add_callees.Given as goal

abbrev pub invariant-loop-place : goal.invariant-loop-place
invariant-loop-place l = Adds (Before (HasAt l.graph l.way l.methods l.set) l.place) l.fn.links l.links
