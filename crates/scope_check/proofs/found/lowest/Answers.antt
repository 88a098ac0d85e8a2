use Rattle.scope_check.proofs.FoundLaws.{lowest_none, lowest_some}
use Rattle.scope_check.proofs.found.lowest.Goals as goal

pub returns-then-tests-i : goal.returns-then-tests-i
returns-then-tests-i c = lowest_some c.args.tests.now c.loop-i.i c.loop-i-test.true c.loop-i.invariant c.if-tests-i.true

pub returns : goal.returns
returns c = lowest_none c.args.tests.now c.loop-i.i c.loop-i-test.false c.loop-i.invariant
