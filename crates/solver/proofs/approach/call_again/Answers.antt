use Rattle.solver.proofs.Places.{place_in}
use Rattle.solver.proofs.Turns.{place_kept, keeps_turn, no_masks}
use Rattle.solver.proofs.Visits.{at_read, place_of}
use Rattle.solver.proofs.approach.call_again.Goals as goal

pub at_word-word-requires : goal.at_word-word-requires
at_word-word-requires c = let p = place_of _ _ _ _ _ c.requires.facts (c.is_place.ensures c.if-not-is_place.false) in place_in _ _ _ _ _ _ p p.place.index

pub call_all-requires : goal.call_all-requires
call_all-requires c = at_read _ _ _ _ _ _ (place_of _ _ _ _ _ c.requires.facts (c.is_place.ensures c.if-not-is_place.false)) c.at_word-word.ensures

pub returns-then-not-call_all : goal.returns-then-not-call_all
returns-then-not-call_all c = λ masks. keeps_turn _ _ _ _ _ _ _ (c.call_all.ensures masks)

pub list_led-requires-clause-place : goal.list_led-requires-clause-place
list_led-requires-clause-place c = place_kept _ _ _ _ _ _ (c.call_all.ensures no_masks).size (place_of _ _ _ _ _ c.requires.facts (c.is_place.ensures c.if-not-is_place.false))

pub returns : goal.returns
returns c = λ masks. keeps_turn _ _ _ _ _ _ _ (c.call_all.ensures masks)
