use Rattle.std.proofs.Common.{refl, arith}
use Rattle.view_solver.proofs.Judged.{next_listed, listed_at}
use Rattle.view_solver.proofs.judging.list_callback.Goals as goal

pub loop-status-init : goal.loop-status-init
loop-status-init c = listed_at _ _ _ _ _ _ (omega arith) c.requires.listed

pub loop-status-preserved : goal.loop-status-preserved
loop-status-preserved c =
    listed_at _ _ _ _ _ _ (omega arith)
    (next_listed _ _ _ _ _ _ _ (record { component = c.args.component.0; callback = c.args.callback; lock = c.args.lock.0; status = c.loop-status.status })
    c.bad_ends-mask.ensures refl refl c.requires.callback c.loop-status-test.true c.in_ok-push_if.ensures c.loop-status.invariant)

pub returns : goal.returns
returns c = listed_at _ _ _ _ _ _ (omega (arith, c.loop-status-test.false, c.loop-status.auto.status-end)) c.loop-status.invariant
