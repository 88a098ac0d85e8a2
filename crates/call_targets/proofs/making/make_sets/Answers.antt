use Rattle.std.proofs.Common.{ap, sym, subst, ◌∙◌, length, ◌≤◌}
use Rattle.ns_base.specs.Answers.{limit_of}
use Rattle.ns_base.specs.declared.answers.Counted.TheVariants.{Targets}
use Rattle.call_targets.specs.Made.{AreMadeBelow, SetsParts, all_rows}
use Rattle.call_targets.specs.Numbered.{weigh}
use Rattle.call_targets.proofs.Fills.{finished, within_limit}
use Rattle.call_targets.proofs.making.make_sets.Goals as goal

pub fill_in_order-requires-clause-sets : goal.fill_in_order-requires-clause-sets
fill_in_order-requires-clause-sets c = c.in-Ok-begun.ensures.1 c.args.app.now

pub returns-clause-rows : goal.returns-clause-rows
returns-clause-rows c =
    let g = c.in_ok-fill_in_order.ensures.ok.0 in
    let h = c.in_ok-fill_rest.ensures.ok in
    let made = subst (λ plan. AreMadeBelow c.fill_rest.new.self (length plan)) (sym h.0.plan) h.1 in
    ap (λ (s : SetsParts). s.rows) c.sets-2.view_is ∙ finished c.args.app.now c.fill_rest.new.self h.0.sets made ∙ ap (all_rows c.args.app.now) (h.0.plan ∙ g.plan ∙ c.in-Ok-begun.ensures.0)

pub returns-clause-few : goal.returns-clause-few
returns-clause-few c =
    let g = c.in_ok-fill_in_order.ensures.ok.0 in
    let h = c.in_ok-fill_rest.ensures.ok in
    let made = subst (λ plan. AreMadeBelow c.fill_rest.new.self (length plan)) (sym h.0.plan) h.1 in
    subst (λ plan. weigh c.args.app.now plan ≤ limit_of Targets) (h.0.plan ∙ g.plan ∙ c.in-Ok-begun.ensures.0) (within_limit c.args.app.now c.fill_rest.new.self h.0.sets made)
