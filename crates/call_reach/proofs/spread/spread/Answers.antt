use Rattle.call_reach.proofs.Turns.{spread_after}
use Rattle.call_reach.proofs.spread.spread.Goals as goal

pub returns : goal.returns
returns c = spread_after _ _ _ _ c.approach.ensures c.close.ensures
