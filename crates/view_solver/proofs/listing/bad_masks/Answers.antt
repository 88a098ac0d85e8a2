use Rattle.std.proofs.lemmas.Result.{IfOk-weaker}
use Rattle.view_solver.proofs.Reported.{least_masks}
use Rattle.view_solver.proofs.listing.bad_masks.Goals as goal

pub returns-in-Ok : goal.returns-in-Ok
returns-in-Ok c = least_masks _ _ _ _ c.requires.least c.in-Ok.ensures
