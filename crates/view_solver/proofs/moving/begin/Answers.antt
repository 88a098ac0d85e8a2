use Rattle.view_solver.proofs.Moves.{begin_turn}
use Rattle.view_solver.proofs.moving.begin.Goals as goal

pub join_view-requires : goal.join_view-requires
join_view-requires c = rw c.requires.facts.places.views c.requires.component

pub returns : goal.returns
returns c = λ masks. begin_turn _ _ masks _ _ _ _ _ c.requires.component c.one.ensures c.join_view.ensures
