use Rattle.solution.proofs.Products.{spread_is}
use Rattle.solution.proofs.words.spread.Goals as goal

pub returns : goal.returns
returns c = spread_is _ _ c.requires _ c.row_of.type_inv _ c.row_of.ensures
