use Rattle.tag_flow.proofs.Turns.{source_kept, turn_next}
use Rattle.tag_flow.proofs.visiting.call_and_go.Goals as goal

pub call-called-requires-clause-source : goal.call-called-requires-clause-source
call-called-requires-clause-source c =
    source_kept _ _ _ _ _ _ c.go_or_throw-gone.ensures c.requires.source

pub returns : goal.returns
returns c =
    turn_next _ _ _ _ _ _ _ _ _ (λ s a b. (a, b)) c.go_or_throw-gone.ensures c.call-called.ensures
