use Rattle.call_reach.proofs.Turns.{keeps_more, keeps_none}
use Rattle.call_reach.proofs.spread.approach.Goals as goal

pub returns-in_err-agenda : goal.returns-in_err-agenda
returns-in_err-agenda c = keeps_none _ _

pub returns-in_err-begin : goal.returns-in_err-begin
returns-in_err-begin c = keeps_none _ _

pub loop-step-init : goal.loop-step-init
loop-step-init c = keeps_none _ _

pub returns-in_err-leave : goal.returns-in_err-leave
returns-in_err-leave c = keeps_more _ _ _ _ c.loop-step.invariant c.leave.ensures

pub loop-step-preserved : goal.loop-step-preserved
loop-step-preserved c = keeps_more _ _ _ _ c.loop-step.invariant c.leave.ensures
