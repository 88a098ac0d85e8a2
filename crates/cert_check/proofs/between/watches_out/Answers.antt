use Rattle.std.proofs.Common.{arith}
use Rattle.cert_check.proofs.Edges.{sees_one, watches_far}
use Rattle.cert_check.proofs.Searches.{none_more}
use Rattle.cert_check.proofs.between.watches_out.Goals as goal

pub returns-then-mover-component_count : goal.returns-then-mover-component_count
returns-then-mover-component_count c = watches_far c.args.task.now _ _ _ (omega (arith, c.if-mover-component_count.true, c.component_count.ensures))

pub loop-status-preserved : goal.loop-status-preserved
loop-status-preserved c = none_more _ _ _ c.loop-status.invariant (sees_one c.args.task.now _ _ _ _ _ _ _ c.view-seen.ensures (c.requires.each _ _ c.loop-status-test.true (omega (arith, c.loop-status-test.true, c.if-mover-component_count.false, c.component_count.ensures))) c.watched_out.ensures) c.if-watched_out.false
