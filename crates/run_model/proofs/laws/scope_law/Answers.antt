use Rattle.run_model.proofs.Scope.{scope_tagged}
use Rattle.run_model.proofs.laws.scope_law.Goals as goal

pub returns : goal.returns
returns c = record { tagged = λ x sound scope. scope_tagged x sound scope }
