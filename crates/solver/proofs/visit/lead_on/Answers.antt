use Rattle.solver.proofs.Visits.{led_turn, here_after}
use Rattle.solver.proofs.visit.lead_on.Goals as goal

pub throw_own-threw-requires : goal.throw_own-threw-requires
throw_own-threw-requires g c = here_after _ _ _ _ _ _ _ _ _ _ _ c.pass_on-passed.ensures.turn c.requires

pub give_back-returned-requires : goal.give_back-returned-requires
give_back-returned-requires g c = here_after _ _ _ _ _ _ _ _ _ _ _ c.throw_own-threw.ensures.turn (here_after _ _ _ _ _ _ _ _ _ _ _ c.pass_on-passed.ensures.turn c.requires)

pub returns : goal.returns
returns g c = led_turn _ _ _ _ _ _ _ _ _ _ _ _ _ _ _ c.pass_on-passed.ensures c.throw_own-threw.ensures (c.give_back-returned.ensures _)
