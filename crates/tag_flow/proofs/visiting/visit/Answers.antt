use Rattle.std.proofs.Common.{refl}
use Rattle.std.proofs.lemmas.Bool.{false≢true}
use Rattle.tag_flow.proofs.Turns.{turn_none}
use Rattle.tag_flow.proofs.visiting.visit.Goals as goal

pub returns-then-not-is_live : goal.returns-then-not-is_live
returns-then-not-is_live c =
    turn_none _ _ _ (λ live. absurd (false≢true (c.if-not-is_live.ensures.1 live)))

pub visit_live-requires : goal.visit_live-requires
visit_live-requires c =
    record { source = record { state = c.requires.state; spot = c.requires.spot; live = c.if-not-is_live.ensures.0 refl } }
