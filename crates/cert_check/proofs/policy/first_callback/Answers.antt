use Rattle.cert_check.proofs.Unmet.{callback_more, callback_some, callback_none}
use Rattle.cert_check.proofs.policy.first_callback.Goals as goal

pub returns-in-Some : goal.returns-in-Some
returns-in-Some c = callback_some c.args.task.now _ _ _ _ c.loop-callback.invariant c.lock.ensures c.in-Some.ensures

pub loop-callback-preserved : goal.loop-callback-preserved
loop-callback-preserved c = callback_more c.args.task.now _ _ c.loop-callback.invariant c.in_default.ensures

pub returns : goal.returns
returns c = callback_none c.args.task.now _ c.told.ensures _ c.loop-callback-test.false c.loop-callback.invariant
