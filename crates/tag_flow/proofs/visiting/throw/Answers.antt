use Rattle.std.proofs.Common.{◌∙◌, sym}
use Rattle.std.proofs.lemmas.Bool.{false≢true}
use Rattle.tag_flow.specs.Turns.{leads_thrown}
use Rattle.tag_flow.proofs.Turns.{turn_as, turn_none}
use Rattle.tag_flow.proofs.visiting.throw.Goals as goal

pub returns-then-not-can_throw : goal.returns-then-not-can_throw
returns-then-not-can_throw c =
    turn_none _ _ _ (λ can. absurd (false≢true (c.if-not-can_throw.ensures ∙ can)))

pub to_handlers-requires-clause-leads : goal.to_handlers-requires-clause-leads
to_handlers-requires-clause-leads c =
    λ x j to. leads_thrown x c.args.act.now c.requires.act (sym c.if-not-can_throw.ensures) to

pub returns : goal.returns
returns c =
    turn_as _ _ _ _ _ _ (λ s h can. h) c.to_handlers.ensures
