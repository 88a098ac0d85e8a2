use Rattle.view_solver.proofs.Judged.{all_listed, all_derivable}
use Rattle.view_solver.proofs.judging.violations.Goals as goal

pub returns-in-Ok-clause-exact : goal.returns-in-Ok-clause-exact
returns-in-Ok-clause-exact c = all_listed _ _ _ _ c.requires.places c.in-Ok.ensures

pub returns-in-Ok-clause-derivable : goal.returns-in-Ok-clause-derivable
returns-in-Ok-clause-derivable c = λ least. all_derivable _ _ _ _ least (all_listed _ _ _ _ c.requires.places c.in-Ok.ensures)
