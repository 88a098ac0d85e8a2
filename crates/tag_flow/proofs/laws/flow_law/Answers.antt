use Rattle.tag_rows.proofs.Monotone.{monotone}
use Rattle.tag_flow.proofs.laws.flow_law.Goals as goal

pub returns : goal.returns
returns c = monotone
