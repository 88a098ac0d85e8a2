use Rattle.solver.proofs.Places.{place_in}
use Rattle.solver.proofs.Visits.{led_place, rest_here, rest_turn, rest_none}
use Rattle.solver.proofs.visit.lead_rest.Goals as goal

pub at_word-requires : goal.at_word-requires
at_word-requires g c = place_in _ _ _ _ _ _ (led_place _ _ _ _ _ _ c.requires.led.places c.requires.here.place) c.requires.here.place.place.index

pub lead_on-requires : goal.lead_on-requires
lead_on-requires g c = rest_here _ _ _ _ _ _ _ _ c.without-rest.ensures c.requires.here

pub returns-then-rest-eq0 : goal.returns-then-rest-eq0
returns-then-rest-eq0 g c = rest_none _ _ _ _ _ _ _ _ _ _ c.requires.led c.at_word.ensures c.without-rest.ensures c.if-rest-eq0.true

pub returns : goal.returns
returns g c = rest_turn _ _ _ _ _ _ _ _ _ _ _ _ _ c.requires.led c.at_word.ensures c.without-rest.ensures c.lead_on.ensures
