use Rattle.run_model.proofs.Runs.{starts_law, steps_law}
use Rattle.run_model.proofs.laws.soundness_inside.Goals as goal

pub returns-clause-starts : goal.returns-clause-starts
returns-clause-starts c = starts_law

pub returns-clause-steps : goal.returns-clause-steps
returns-clause-steps c = steps_law
