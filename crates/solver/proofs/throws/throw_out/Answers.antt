use Rattle.std.proofs.Common.{sym, ◌∙◌}
use Rattle.std.proofs.lemmas.Bool.{false≢true}
use Rattle.solver.proofs.Turns.{sure_none, size_same}
use Rattle.solver.proofs.Visits.{throw_out_turn}
use Rattle.solver.proofs.throws.throw_out.Goals as goal

pub join_exc-requires : goal.join_exc-requires
join_exc-requires c = rw c.requires.facts.places.excs c.requires.place.method

pub returns-then-not-leaves : goal.returns-then-not-leaves
returns-then-not-leaves c = record { turn = λ masks can. sure_none _ _ _ _ (λ t more e u h yes. absurd (false≢true (c.if-not-leaves.ensures ∙ yes))); size = size_same _ }

pub returns : goal.returns
returns c = record { turn = λ masks can. throw_out_turn _ _ masks _ _ _ _ _ _ (sym c.if-not-leaves.ensures) can c.join_exc.ensures; size = c.join_exc.ensures.size }
