use Rattle.solution.proofs.Bits.{first_is}
use Rattle.solution.proofs.words.first_of.Goals as goal

pub returns : goal.returns
returns c = λ s. first_is _ s c.ranges.mask.fits
