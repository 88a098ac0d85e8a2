use Rattle.std.proofs.Common.{sym, ◌∙◌}
use Rattle.std.proofs.lemmas.Bool.{false≢true}
use Rattle.solver.proofs.Turns.{sure_none}
use Rattle.solver.proofs.Visits.{return_turn}
use Rattle.solver.proofs.visit.give_back.Goals as goal

pub join_ret-requires : goal.join_ret-requires
join_ret-requires c = rw c.requires.place.facts.places.rets c.requires.place.place.method

pub returns-then-not-returns : goal.returns-then-not-returns
returns-then-not-returns c = λ masks. sure_none _ _ _ _ (λ t more e s h yes. absurd (false≢true (c.if-not-returns.ensures ∙ yes)))

pub returns : goal.returns
returns c = λ masks. return_turn _ _ masks _ _ _ _ _ _ (sym c.if-not-returns.ensures) c.requires c.join_ret.ensures
