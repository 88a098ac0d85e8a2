use Rattle.std.proofs.Common.{sym}
use Rattle.solver.proofs.Places.{successor_in, place_beside}
use Rattle.solver.proofs.approach.list_successors.Goals as goal

pub list-requires-clause-place : goal.list-requires-clause-place
list-requires-clause-place c = place_beside _ _ _ _ _ _ c.requires.place (successor_in _ _ _ _ _ (sym c.in-Some.ensures) c.requires.place.facts.sound)
