use Rattle.view_solver.proofs.Moves.{move_turn}
use Rattle.view_solver.proofs.moving.move_on.Goals as goal

pub view-seen-requires-clause-component : goal.view-seen-requires-clause-component
view-seen-requires-clause-component c = rw c.requires.facts.places.views c.requires.component

pub join_view-requires : goal.join_view-requires
join_view-requires c = rw c.requires.facts.places.views c.requires.component

pub returns : goal.returns
returns c = λ masks. move_turn _ _ _ _ _ c.requires.there _ _ _ c.view-seen.ensures masks _ _ _ _ c.carry_word.ensures c.lead-after.ensures c.shifted.ensures c.join_view.ensures
