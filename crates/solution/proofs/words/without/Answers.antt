use Rattle.solution.proofs.Products.{without_is}
use Rattle.solution.proofs.words.without.Goals as goal

pub returns : goal.returns
returns c = λ e s. without_is _ _ e s c.ranges.other.fits
