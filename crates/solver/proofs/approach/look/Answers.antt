use Rattle.solver.proofs.Visits.{nears_kept}
use Rattle.solver.proofs.approach.look.Goals as goal

pub returns-in-Call : goal.returns-in-Call
returns-in-Call g c = nears_kept _ _ _ _ _ _ c.requires.led (c.call_again.ensures _)
