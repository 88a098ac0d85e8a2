use Rattle.call_targets.proofs.Receivers.{tells_calls}
use Rattle.call_targets.proofs.laws.call_law.Goals as goal

pub returns : goal.returns
returns c = tells_calls
