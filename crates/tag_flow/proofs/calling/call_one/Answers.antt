use Rattle.tag_flow.proofs.Turns.{source_kept, turn_next}
use Rattle.tag_flow.proofs.calling.call_one.Goals as goal

pub come_back-back-requires-clause-source : goal.come_back-back-requires-clause-source
come_back-back-requires-clause-source c =
    source_kept _ _ _ _ _ _ c.enter-entered.ensures c.requires.source

pub returns : goal.returns
returns c =
    turn_next _ _ _ _ _ _ _ _ _ (λ s a b. (a, b)) c.enter-entered.ensures c.come_back-back.ensures
