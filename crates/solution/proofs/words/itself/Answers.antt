use Rattle.solution.proofs.Products.{itself_is}
use Rattle.solution.proofs.words.itself.Goals as goal

pub returns : goal.returns
returns c = itself_is _ c.ranges.mask.fits
