use Rattle.std.proofs.Common.{rules}
use Rattle.tag_flow.proofs.Reached.{entries_are_below, known_is}
use Rattle.tag_flow.proofs.known.Known.find.Goals as goal

pub reach-requires-clause-from : goal.reach-requires-clause-from
reach-requires-clause-from c =
    search (rules, entries_are_below)

pub invariant_of-result : goal.invariant_of-result
invariant_of-result c =
    known_is _ _ _ _ _ _ _ c.told.ensures c.requires.graph c.requires.list c.in-Ok.ensures (rw c.deref.ensures.value at c.in_ok-reached.ensures) c.in_ok-masks.ensures c.in-Ok-find_sites.ensures.sites c.in-Ok-find_sites.ensures.len c.requires.sites
