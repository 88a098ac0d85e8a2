use Rattle.solver.proofs.Places.{method_there, callee_reached}
use Rattle.solver.proofs.Visits.{back_thrown, threw_turn}
use Rattle.solver.proofs.calls.throw_back.Goals as goal

pub exc_word-exc-requires : goal.exc_word-exc-requires
exc_word-exc-requires c = rw c.requires.opened.place.facts.places.excs (method_there _ _ _ c.requires.opened.place.facts _ (callee_reached _ _ _ _ _ _ c.requires.opened.place c.requires.called))

pub returns : goal.returns
returns c = λ masks.
    (let can = back_thrown _ _ _ _ _ _ c.requires.called masks _ _ _ c.requires.opened c.exc_word-exc.ensures c.join.ensures in
    threw_turn _ _ _ _ _ _ c.requires.called masks _ _ _ _ _ c.exc_word-exc.ensures c.join.ensures (c.throw_all.ensures.turn masks can))
