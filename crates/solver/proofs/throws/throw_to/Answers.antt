use Rattle.solver.proofs.Places.{handler_in, place_in}
use Rattle.solver.proofs.Visits.{throw_to_turn}
use Rattle.solver.proofs.throws.throw_to.Goals as goal

pub join_at-requires : goal.join_at-requires
join_at-requires c = place_in _ _ _ _ _ _ c.requires.place (handler_in _ _ _ _ _ c.requires.way c.requires.place.facts.sound)

pub returns-clause-turn : goal.returns-clause-turn
returns-clause-turn c = λ masks can. throw_to_turn _ _ masks _ _ _ _ _ _ _ _ c.requires.way can c.join_at.ensures

pub returns-clause-size : goal.returns-clause-size
returns-clause-size c = c.join_at.ensures.size
