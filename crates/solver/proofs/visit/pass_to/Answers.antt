use Rattle.solver.proofs.Places.{successor_in, place_in}
use Rattle.solver.proofs.Turns.{sure_masks}
use Rattle.solver.proofs.Visits.{pass_turn}
use Rattle.solver.proofs.visit.pass_to.Goals as goal

pub join_at-requires : goal.join_at-requires
join_at-requires g c = place_in _ _ _ _ _ _ c.requires.here.place (successor_in _ _ _ _ _ c.requires.way c.requires.here.place.facts.sound)

pub returns : goal.returns
returns g c =
    sure_masks _ _ _ _ _ _ _ c.ask_passes-masks.ensures.same
    (pass_turn _ _ _ _ _ _ _ _ _ _ _ _ _ _ c.requires.way c.requires.here c.all_of.ensures c.ask_passes-masks.ensures.masks c.join.ensures c.join_at.ensures)
