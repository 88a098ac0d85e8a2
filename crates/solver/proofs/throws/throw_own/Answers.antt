use Rattle.solver.proofs.Turns.{sure_masks}
use Rattle.solver.proofs.Visits.{own_thrown, own_turn}
use Rattle.solver.proofs.throws.throw_own.Goals as goal

pub returns : goal.returns
returns g c =
    let can = own_thrown _ _ _ _ _ _ _ _ _ _ c.requires c.ask_throws-masks.ensures.masks c.join.ensures in
    sure_masks _ _ _ _ _ _ _ c.ask_throws-masks.ensures.same
    (own_turn _ _ _ _ _ _ _ _ _ _ _ _ c.all_of.ensures c.ask_throws-masks.ensures.masks c.join.ensures (c.throw_all.ensures.turn _ can))
