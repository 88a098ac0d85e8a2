use Rattle.run_model.proofs.Heaps.{held_exactly}
use Rattle.run_model.proofs.laws.held_statuses.Goals as goal

pub returns : goal.returns
returns c = record { held = λ n l h ok. held_exactly h l n ok }
