use Rattle.std.proofs.Common.{refl, arith}
use Rattle.view_solver.proofs.Reported.{next_reported, reported_at}
use Rattle.view_solver.proofs.listing.list_lock.Goals as goal

pub loop-status-init : goal.loop-status-init
loop-status-init c = reported_at _ c.told.ensures _ _ _ (omega arith) c.requires.reported

pub loop-status-preserved : goal.loop-status-preserved
loop-status-preserved c =
    reported_at _ c.told.ensures _ _ _ (omega arith)
    (next_reported _ c.told.ensures _ _ _ _ (record { component = c.args.component.0; callback = c.args.callback; lock = c.args.lock.0; status = c.loop-status.status })
    c.mask_at-mask.ensures refl (record { lock = omega (arith, c.requires.lock, c.told.ensures.slots); callback = c.requires.callback; status = c.loop-status-test.true }) c.in_ok-push_if.ensures c.loop-status.invariant)

pub returns : goal.returns
returns c = reported_at _ c.told.ensures _ _ _ (omega (arith, c.loop-status-test.false, c.loop-status.auto.status-end)) c.loop-status.invariant
