use Rattle.solver.proofs.Places.{place_in}
use Rattle.solver.proofs.Visits.{at_read, here_after, led_place, rest_here, nears_none, nears_led}
use Rattle.solver.proofs.visit.lead_new.Goals as goal

pub at_word-word-requires : goal.at_word-word-requires
at_word-word-requires g c = place_in _ _ _ _ _ _ c.requires.place c.requires.place.place.index

pub at_word-requires : goal.at_word-requires
at_word-requires g c = place_in _ _ _ _ _ _ (led_place _ _ _ _ _ _ c.requires.led.places c.requires.place) c.requires.place.place.index

pub lead_on-passed-requires : goal.lead_on-passed-requires
lead_on-passed-requires g c = rest_here _ _ _ _ _ _ _ _ c.without-fresh.ensures (at_read _ _ _ _ _ _ c.requires.place c.at_word-word.ensures)

pub call_all-called-requires : goal.call_all-called-requires
call_all-called-requires g c = here_after _ _ _ _ _ _ _ _ _ _ _ c.lead_on-passed.ensures.turn (rest_here _ _ _ _ _ _ _ _ c.without-fresh.ensures (at_read _ _ _ _ _ _ c.requires.place c.at_word-word.ensures))

pub join_at-requires : goal.join_at-requires
join_at-requires g c = place_in _ _ _ _ _ _ (led_place _ _ _ _ _ _ c.requires.led.places c.requires.place) c.requires.place.place.index

pub returns-then-fresh-eq0 : goal.returns-then-fresh-eq0
returns-then-fresh-eq0 g c = nears_none _ _ _ _ _ c.requires.led

pub returns : goal.returns
returns g c = nears_led _ _ _ _ _ _ _ _ _ _ _ _ _ _ _ _ c.requires.led c.join_at.ensures c.lead_on-passed.ensures (c.call_all-called.ensures _)
