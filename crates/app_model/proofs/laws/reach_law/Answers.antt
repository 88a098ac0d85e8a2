use Rattle.app_model.proofs.ReachLaws.{reach_is_least}
use Rattle.app_model.proofs.laws.reach_law.Goals as goal

pub returns : goal.returns
returns c = λ graph from. reach_is_least graph from
