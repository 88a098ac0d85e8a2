use Rattle.std.proofs.Common.{sym}
use Rattle.solver.proofs.Places.{successor_in, place_in, method_there, callee_reached}
use Rattle.solver.proofs.Turns.{turn_none}
use Rattle.solver.proofs.Visits.{back_turn}
use Rattle.solver.proofs.calls.come_back.Goals as goal

pub returns-in_default : goal.returns-in_default
returns-in_default c = λ masks. turn_none _ _ _ _ (λ e s u j h r is. absurd (let n = c.in_default.ensures in cc))

pub ret_word-ret-requires : goal.ret_word-ret-requires
ret_word-ret-requires c = rw c.requires.opened.place.facts.places.rets (method_there _ _ _ c.requires.opened.place.facts _ (callee_reached _ _ _ _ _ _ c.requires.opened.place c.requires.called))

pub join_at-requires : goal.join_at-requires
join_at-requires c = place_in _ _ _ _ _ _ c.requires.opened.place (successor_in _ _ _ _ _ (sym c.in-Some.ensures) c.requires.opened.place.facts.sound)

pub returns : goal.returns
returns c = λ masks. back_turn _ _ _ _ _ _ c.requires.called masks _ _ _ _ _ _ (sym c.in-Some.ensures) c.requires.opened c.ret_word-ret.ensures c.join.ensures c.join_at.ensures
