use Rattle.solution.proofs.Bits.{shift_fits}
use Rattle.solution.proofs.words.shifted.Goals as goal

pub returns : goal.returns
returns c = shift_fits _ _ c.requires c.ranges.mask.fits
