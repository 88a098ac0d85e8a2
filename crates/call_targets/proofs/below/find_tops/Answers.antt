use Rattle.call_targets.proofs.Roots.{next_some}
use Rattle.call_targets.proofs.below.find_tops.Goals as goal

pub loop-i-preserved : goal.loop-i-preserved
loop-i-preserved c = next_some _ c.args.walk.now.kinds c.kinds-kinds.result.now c.loop-i.i _ c.top_at.result c.loop-i.tops.items c.push_some.new.classes.items c.kinds-kinds.ensures c.loop-i-test.true c.top_at.ensures c.loop-i.invariant c.in_ok-push_some.ensures
