use Rattle.call_reach.proofs.Turns.{within_more}
use Rattle.call_reach.proofs.tests.reach.add_link.Goals as goal

pub returns-in_ok-add : goal.returns-in_ok-add
returns-in_ok-add c = rw c.in_ok-add.ensures (within_more 6 _ _ c.requires (c.if-from-lt6.true, c.if-to-lt6.true))
