use Rattle.run_model.proofs.Runs.{counts_law, relation_law, runs_law}
use Rattle.run_model.proofs.laws.tagged_soundness.Goals as goal

pub returns-clause-runs : goal.returns-clause-runs
returns-clause-runs c = runs_law

pub returns-clause-counts : goal.returns-clause-counts
returns-clause-counts c = counts_law

pub returns-clause-relation : goal.returns-clause-relation
returns-clause-relation c = relation_law
