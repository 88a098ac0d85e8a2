use Rattle.flow_model.specs.Derived.{is_given, all_done}
use Rattle.solver.proofs.sweep.solve_calls.Goals as goal

pub returns-in_err-worklist-clause-sound : goal.returns-in_err-worklist-clause-sound
returns-in_err-worklist-clause-sound g c = λ f h. is_given h all_done
