use Rattle.solution.proofs.Bits.{end_is}
use Rattle.solution.proofs.words.end_of.Goals as goal

pub returns-clause-above : goal.returns-clause-above
returns-clause-above c = λ s. end_is _ s c.ranges.mask.fits
