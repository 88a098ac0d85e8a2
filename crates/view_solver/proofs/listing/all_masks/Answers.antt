use Rattle.view_solver.proofs.Reported.{push_lock}
use Rattle.view_solver.proofs.listing.all_masks.Goals as goal

pub loop-lock-preserved : goal.loop-lock-preserved
loop-lock-preserved c = push_lock _ _ _ _ _ c.in-Ok.ensures c.in_ok-push-in-Ok.ensures.items c.loop-lock.invariant
