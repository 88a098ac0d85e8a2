use Rattle.run_model.proofs.Targets.{target_fits}
use Rattle.run_model.proofs.laws.call_targets.Goals as goal

pub returns : goal.returns
returns c = record { fits = λ x m i by usage arguments given type graph is. target_fits x m i by usage arguments given (graph.rows m i) is type }
