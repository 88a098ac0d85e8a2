use Rattle.call_reach.proofs.Turns.{keeps_more, keeps_none}
use Rattle.call_reach.proofs.spread.leave.Goals as goal

pub loop-step-init : goal.loop-step-init
loop-step-init c = keeps_none _ _

pub returns-in_err-pass_on : goal.returns-in_err-pass_on
returns-in_err-pass_on c = keeps_more _ _ _ _ c.loop-step.invariant c.pass_on.ensures

pub loop-step-preserved : goal.loop-step-preserved
loop-step-preserved c = keeps_more _ _ _ _ c.loop-step.invariant c.pass_on.ensures
