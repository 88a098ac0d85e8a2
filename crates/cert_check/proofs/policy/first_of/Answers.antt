use Rattle.std.proofs.Common.{arith, sym, ◌∙◌}
use Rattle.cert_check.proofs.Unmet.{component_more, component_some, component_none}
use Rattle.cert_check.proofs.policy.first_of.Goals as goal

pub returns-then-is_some : goal.returns-then-is_some
returns-then-is_some c = component_some c.args.task.now _ _ c.loop-component.invariant c.first_callback-found.ensures (sym c.is_some.ensures ∙ c.if-is_some.true)

pub loop-component-preserved : goal.loop-component-preserved
loop-component-preserved c = component_more c.args.task.now _ _ c.loop-component.invariant c.first_callback-found.ensures (sym c.is_some.ensures ∙ c.if-is_some.false)

pub returns : goal.returns
returns c = component_none c.args.task.now c.told.ensures _ (omega (arith, c.loop-component-test.false, c.component_count-component-end.ensures)) c.loop-component.invariant
