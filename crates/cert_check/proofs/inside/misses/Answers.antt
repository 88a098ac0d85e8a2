use Rattle.cert_check.proofs.Missing.{misses_is}
use Rattle.cert_check.proofs.inside.misses.Goals as goal

pub returns : goal.returns
returns c = misses_is _ _ c.ranges.led.fits c.ranges.there.fits
