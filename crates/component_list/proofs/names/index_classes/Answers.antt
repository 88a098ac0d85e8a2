use Rattle.std.proofs.Common.{◌≡◌, ◌-◌, arith, rules, ◌∙◌}
use Rattle.component_list.proofs.Places.{class_first, class_from}
use Rattle.component_list.proofs.names.index_classes.Goals as goal

pub loop-left-preserved : goal.loop-left-preserved
loop-left-preserved c = (
  omega (arith, c.loop-left.invariant.0),
  λ name.
      c.in_ok-insert.ensures.updates.0 name
      ∙ class_first c.args.app.now name.now c.type_text-name.result.now (c.loop-left.left - 1) c.loop-left.left c.class.result.now _ c.class.ensures.is (search (rules, c.behind-app.view_is, c.type_text-name.ensures)) (omega arith) (c.loop-left.invariant.1 name),
)

pub returns : goal.returns
returns c name =
    let start : c.loop-left.left ≡ 0 = omega arith in
    rw start at (c.loop-left.invariant.1 name) ∙ class_from c.args.app.now name.now
