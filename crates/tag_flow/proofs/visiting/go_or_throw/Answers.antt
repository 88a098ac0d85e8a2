use Rattle.tag_flow.proofs.Turns.{source_kept, turn_next}
use Rattle.tag_flow.proofs.visiting.go_or_throw.Goals as goal

pub throw-thrown-requires-clause-source : goal.throw-thrown-requires-clause-source
throw-thrown-requires-clause-source c =
    source_kept _ _ _ _ _ _ c.go_on-on.ensures c.requires.source

pub returns : goal.returns
returns c =
    turn_next _ _ _ _ _ _ _ _ _ (λ s a b. (a, b)) c.go_on-on.ensures c.throw-thrown.ensures
