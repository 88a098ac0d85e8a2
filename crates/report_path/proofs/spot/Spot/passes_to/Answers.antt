use Rattle.report_path.proofs.Tests.{found_none}
use Rattle.report_path.proofs.Ways.{successor_few}
use Rattle.report_path.proofs.spot.Spot.passes_to.Goals as goal

pub returns : goal.returns
returns c = found_none _ _ c.loop-number.invariant (λ k z. successor_few _ _ c.told.ensures.sound.sound c.told.ensures.method _ _ _ _ z.0 c.loop-number-test.false)
