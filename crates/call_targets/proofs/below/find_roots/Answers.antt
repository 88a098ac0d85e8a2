use Rattle.call_targets.proofs.Roots.{next_some}
use Rattle.call_targets.proofs.below.find_roots.Goals as goal

pub loop-i-preserved : goal.loop-i-preserved
loop-i-preserved c = next_some _ c.args.walk.now.kinds c.kinds-kinds.result.now c.loop-i.i _ c.root_at.result c.loop-i.roots.items c.push_some.new.classes.items c.kinds-kinds.ensures c.loop-i-test.true c.root_at.ensures c.loop-i.invariant c.in_ok-push_some.ensures
