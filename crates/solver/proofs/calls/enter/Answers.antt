use Rattle.solver.proofs.Places.{first_in, callee_reached}
use Rattle.solver.proofs.Visits.{enter_turn}
use Rattle.solver.proofs.calls.enter.Goals as goal

pub join_at-requires : goal.join_at-requires
join_at-requires c = first_in _ _ _ c.requires.opened.place.facts _ (callee_reached _ _ _ _ _ _ c.requires.opened.place c.requires.called)

pub returns : goal.returns
returns c = λ masks. enter_turn _ _ _ _ _ _ c.requires.called masks _ _ _ _ _ c.requires.opened c.all_of.ensures c.itself.ensures c.join_at.ensures
