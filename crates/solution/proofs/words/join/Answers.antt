use Rattle.std.proofs.Common.{arith}
use Rattle.solution.proofs.Products.{joined_none, joined_more, joined_all, joined_empty}
use Rattle.solution.proofs.words.join.Goals as goal

pub loop-status-init : goal.loop-status-init
loop-status-init c = joined_none _ _

pub loop-status-preserved : goal.loop-status-preserved
loop-status-preserved c = joined_more _ _ _ _ _ c.loop-status.invariant c.spread-word.ensures

pub returns : goal.returns
returns c = joined_all _ _ _ _ (omega (arith, c.loop-status-test.false)) c.loop-status.invariant

pub returns-then-b-eq0 : goal.returns-then-b-eq0
returns-then-b-eq0 c = joined_empty _ _ c.if-b-eq0.true
