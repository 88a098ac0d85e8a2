use Rattle.std.proofs.Common.{arith}
use Rattle.call_reach.proofs.Turns.{contains_at, turn_more, turn_none, turn_whole, within_still}
use Rattle.call_reach.proofs.spread.sweep.Goals as goal

pub loop-place-init : goal.loop-place-init
loop-place-init c = turn_none _ _

pub pass-changed-requires : goal.pass-changed-requires
pass-changed-requires c = within_still _ _ _ _ _ c.requires c.loop-place.invariant.keeps.len c.get.ensures

pub loop-place-preserved : goal.loop-place-preserved
loop-place-preserved c = turn_more _ _ _ _ _ _ _ _ c.get.ensures c.loop-place.invariant (c.pass-changed.ensures _ (contains_at _ _ _ c.get.ensures))

pub returns : goal.returns
returns c = turn_whole _ c.loop-place.place _ _ _ (omega (arith, c.loop-place-test.false)) c.loop-place.invariant
