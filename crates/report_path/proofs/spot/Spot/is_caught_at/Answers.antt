use Rattle.report_path.proofs.Tests.{found_none}
use Rattle.report_path.proofs.Ways.{handler_few}
use Rattle.report_path.proofs.spot.Spot.is_caught_at.Goals as goal

pub returns : goal.returns
returns c = found_none _ _ c.loop-number.invariant (λ k z. handler_few _ _ c.told.ensures.sound.sound c.told.ensures.method _ _ _ _ z c.loop-number-test.false)
