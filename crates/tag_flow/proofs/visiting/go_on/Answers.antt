use Rattle.tag_flow.proofs.Turns.{turn_none}
use Rattle.tag_flow.specs.Turns.{leads_after}
use Rattle.tag_flow.proofs.Parts.{goes_not, goes_yes, went_on}
use Rattle.tag_flow.proofs.visiting.go_on.Goals as goal

pub returns-then-not-goes_by_itself : goal.returns-then-not-goes_by_itself
returns-then-not-goes_by_itself c =
    turn_none _ _ _ (λ leads outside. absurd (goes_not c.args.act.now _ (c.if-not-goes_by_itself.ensures) leads outside))

pub to_successors-requires-clause-leads : goal.to_successors-requires-clause-leads
to_successors-requires-clause-leads c =
    λ x j to. (let goes = goes_yes c.args.act.now _ (c.if-not-goes_by_itself.ensures) in leads_after x c.args.act.now c.site-site.result c.requires.act goes.0 goes.1 c.site-site.ensures to)

pub returns : goal.returns
returns c =
    went_on _ _ _ _ _ _ _ _ c.site-site.ensures c.to_successors.ensures
