use Rattle.std.proofs.Common.{◌∙◌, sym}
use Rattle.std.proofs.lemmas.Bool.{false≢true}
use Rattle.tag_flow.proofs.Turns.{turn_as, turn_none}
use Rattle.tag_flow.proofs.sweeping.visit_method.Goals as goal

pub returns-then-not-is_reached : goal.returns-then-not-is_reached
returns-then-not-is_reached c =
    turn_none _ _ _ (λ on. absurd (false≢true (c.if-not-is_reached.ensures ∙ on)))

pub visit_code-requires-clause-reached : goal.visit_code-requires-clause-reached
visit_code-requires-clause-reached c =
    sym c.if-not-is_reached.ensures

pub returns : goal.returns
returns c =
    turn_as _ _ _ _ _ _ (λ s h on. h) c.visit_code.ensures
