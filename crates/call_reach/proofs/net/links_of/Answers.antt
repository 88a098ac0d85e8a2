use Rattle.std.proofs.Common.{ℕ, length, subst}
use Rattle.call_reach.specs.Net.{Adds, Haves}
use Rattle.call_reach.proofs.Adding.{both_kinds, links_within}
use Rattle.call_reach.proofs.net.links_of.Goals as goal

pub returns-clause-links : goal.returns-clause-links
returns-clause-links c = both_kinds c.args.graph.now c.args.way (length c.args.app.now.methods) c.in_ok-links.links c.add_all_uses.new.links c.add_all_callees.new.links c.in_ok-links.ensures c.in_ok-add_all_uses.ensures
    (subst (λ (n : ℕ). Adds (Haves c.args.graph.now c.args.way n) c.add_all_uses.new.links c.add_all_callees.new.links) c.method_count.ensures c.in_ok-add_all_callees.ensures)

pub returns-clause-within : goal.returns-clause-within
returns-clause-within c = links_within c.args.app.now c.args.graph.now c.requires.fits c.args.way _ c.told.ensures (returns-clause-links c)
