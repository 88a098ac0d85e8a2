use Rattle.run_model.specs.Machine.{choices_of}
use Rattle.run_model.proofs.Choices.{length-listed, options_some, picked_is, step_taken}
use Rattle.run_model.proofs.laws.options_law.Goals as goal

pub returns-clause-some : goal.returns-clause-some
returns-clause-some c = options_some

pub returns-clause-count : goal.returns-clause-count
returns-clause-count c = λ x s. length-listed (choices_of x s)

pub returns-clause-member : goal.returns-clause-member
returns-clause-member c = λ x s k. picked_is (choices_of x s) k

pub returns-clause-step : goal.returns-clause-step
returns-clause-step c = λ x s k. step_taken x k s
