use Rattle.solver.proofs.Places.{first_in}
use Rattle.solver.proofs.Turns.{turn_none}
use Rattle.view_solver.proofs.Moves.{start_turn}
use Rattle.view_solver.proofs.Callbacks.{callback_none, callback_some}
use Rattle.view_solver.proofs.moving.start.Goals as goal

pub returns-in_default : goal.returns-in_default
returns-in_default c = λ masks. turn_none _ _ _ _ (λ s m h is. absurd (let none = callback_none _ _ _ c.in_default.ensures.callback in cc))

pub view-seen-requires-clause-component : goal.view-seen-requires-clause-component
view-seen-requires-clause-component c = rw c.requires.facts.places.views c.requires.component

pub join_at-requires : goal.join_at-requires
join_at-requires c = first_in _ _ _ c.requires.facts _ c.in-Some.ensures.entered.reached

pub returns : goal.returns
returns c = λ masks. start_turn _ _ _ _ _ c.requires.there _ _ _ c.view-seen.ensures masks _ _ _ _ _ (callback_some _ _ _ _ c.in-Some.ensures.callback) c.enter_word.ensures c.lead-entered.ensures c.itself.ensures c.join_at.ensures
