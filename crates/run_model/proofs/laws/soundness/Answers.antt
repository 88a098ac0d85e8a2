use Rattle.run_model.proofs.Runs.{counts_law, relation_law, runs_law}
use Rattle.run_model.proofs.Scope.{scope_tagged}
use Rattle.run_model.proofs.laws.soundness.Goals as goal

pub returns-clause-runs : goal.returns-clause-runs
returns-clause-runs c = λ x l set sound scope. runs_law x l set (scope_tagged x sound scope)

pub returns-clause-counts : goal.returns-clause-counts
returns-clause-counts c = λ x l set sound scope. counts_law x l set (scope_tagged x sound scope)

pub returns-clause-relation : goal.returns-clause-relation
returns-clause-relation c = λ x l set sound scope. relation_law x l set (scope_tagged x sound scope)
