use Rattle.std.proofs.Common.{arith}
use Rattle.view_solver.proofs.Reported.{past_locks}
use Rattle.view_solver.proofs.listing.list_callback.Goals as goal

pub returns : goal.returns
returns c =
    past_locks _ c.told.ensures c.args.component.0 c.args.callback c.loop-lock.lock _ (omega (arith, c.loop-lock-test.false, c.lock_count-lock-end.ensures.count))
    (omega (arith, c.loop-lock.auto.lock-end, c.lock_count-lock-end.ensures.limit)) c.loop-lock.invariant
