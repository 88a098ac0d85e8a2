use Rattle.view_solver.proofs.Moves.{tell_turn, tell_none}
use Rattle.view_solver.proofs.moving.tell.Goals as goal

pub tell_each-requires-clause-moves : goal.tell_each-requires-clause-moves
tell_each-requires-clause-moves c = c.moves-moved.ensures.only

pub returns : goal.returns
returns c = λ masks. tell_turn _ _ masks _ _ _ _ _ c.moves-moved.ensures (c.tell_each.ensures masks)

pub returns-then-without-eq0 : goal.returns-then-without-eq0
returns-then-without-eq0 c = λ masks. tell_none _ _ masks _ _ _ _ _ c.moves-moved.ensures c.itself.ensures c.without.ensures c.if-without-eq0.true
