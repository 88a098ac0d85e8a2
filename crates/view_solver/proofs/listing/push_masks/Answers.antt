use Rattle.std.proofs.Common.{refl, arith}
use Rattle.view_solver.proofs.Reported.{masks_at, next_mask}
use Rattle.view_solver.proofs.listing.push_masks.Goals as goal

pub loop-callback-init : goal.loop-callback-init
loop-callback-init c = masks_at _ _ _ _ _ _ (omega arith) c.requires.masks

pub loop-callback-preserved : goal.loop-callback-preserved
loop-callback-preserved c =
    masks_at _ _ _ _ _ _ (omega arith) (next_mask _ _ _ c.args.component.0 c.loop-callback.callback _ _ _ _ c.loop-callback-test.true refl c.bad_ends.ensures c.in_ok-push.ensures.items c.loop-callback.invariant)

pub returns : goal.returns
returns c = masks_at _ _ _ _ _ _ (omega (arith, c.loop-callback-test.false, c.loop-callback.auto.callback-end)) c.loop-callback.invariant
