use Rattle.solver.proofs.Places.{place_in}
use Rattle.solver.proofs.Visits.{at_read, here_after, visit_turn, visit_none}
use Rattle.solver.proofs.visit.visit.Goals as goal

pub at_word-word-requires : goal.at_word-word-requires
at_word-word-requires g c = place_in _ _ _ _ _ _ c.requires.place c.requires.place.place.index

pub returns-then-word-eq0 : goal.returns-then-word-eq0
returns-then-word-eq0 g c = visit_none _ _ _ _ _ _ _ c.at_word-word.ensures c.if-word-eq0.true

pub lead_rest-passed-requires-clause-here : goal.lead_rest-passed-requires-clause-here
lead_rest-passed-requires-clause-here g c = at_read _ _ _ _ _ _ c.requires.place c.at_word-word.ensures

pub call_all-called-requires : goal.call_all-called-requires
call_all-called-requires g c = here_after _ _ _ _ _ _ _ _ _ _ _ c.lead_rest-passed.ensures.turn (at_read _ _ _ _ _ _ c.requires.place c.at_word-word.ensures)

pub returns : goal.returns
returns g c = visit_turn _ _ _ _ _ _ _ _ _ _ _ _ c.at_word-word.ensures c.lead_rest-passed.ensures (c.call_all-called.ensures _)
