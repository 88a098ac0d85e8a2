use Rattle.std.proofs.Common.{sym}
use Rattle.view_solver.proofs.Moves.{watch_turn, watch_none}
use Rattle.view_solver.proofs.moving.watch.Goals as goal

pub view_word-seen-requires : goal.view_word-seen-requires
view_word-seen-requires c = rw c.requires.facts.places.views c.requires.component

pub join_view-requires : goal.join_view-requires
join_view-requires c = rw c.requires.facts.places.views c.requires.component

pub returns-then-component-mover : goal.returns-then-component-mover
returns-then-component-mover c = λ masks. watch_none _ _ masks _ _ _ _ c.if-component-mover.true

pub returns : goal.returns
returns c = λ masks. watch_turn _ _ masks _ _ _ _ _ _ _ _ (λ eq. c.if-component-mover.false (sym eq)) c.view_word-seen.ensures c.requires.moves c.join.ensures c.join_view.ensures
