use Rattle.std.proofs.Common.{sym}
use Rattle.solver.proofs.Places.{handler_in, place_beside}
use Rattle.solver.proofs.approach.list_handlers.Goals as goal

pub list-requires-clause-place : goal.list-requires-clause-place
list-requires-clause-place c = place_beside _ _ _ _ _ _ c.requires.place (handler_in _ _ _ _ _ (sym c.in-Some.ensures) c.requires.place.facts.sound)
