use Rattle.cert_check.proofs.Unmet.{status_more, status_some, status_none}
use Rattle.cert_check.proofs.policy.first_status.Goals as goal

pub returns-then-has_status : goal.returns-then-has_status
returns-then-has_status c = status_some c.args.task.now _ _ _ c.violations-mask.ensures _ _ c.loop-status.invariant c.has_status.ensures c.if-has_status.true

pub loop-status-preserved : goal.loop-status-preserved
loop-status-preserved c = status_more c.args.task.now _ _ _ c.violations-mask.ensures _ _ c.loop-status.invariant c.has_status.ensures c.if-has_status.false

pub returns : goal.returns
returns c = status_none c.args.task.now _ _ _ c.violations-mask.ensures _ c.loop-status-test.false c.loop-status.invariant
