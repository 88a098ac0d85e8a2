use Rattle.view_solver.proofs.Reported.{all_least, all_reported}
use Rattle.view_solver.proofs.listing.list_violations.Goals as goal

pub returns-in-Ok-clause-exact : goal.returns-in-Ok-clause-exact
returns-in-Ok-clause-exact c = all_reported _ c.told.ensures _ c.in-Ok.ensures

pub returns-in-Ok-clause-least : goal.returns-in-Ok-clause-least
returns-in-Ok-clause-least c = all_least _ _ _ c.requires

pub returns-in-Err-clause-least : goal.returns-in-Err-clause-least
returns-in-Err-clause-least c = all_least _ _ _ c.requires
