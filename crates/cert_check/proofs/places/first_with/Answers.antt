use Rattle.cert_check.proofs.FirstPlaces.{with_more, with_some, with_none}
use Rattle.cert_check.proofs.places.first_with.Goals as goal

pub returns-in-Some : goal.returns-in-Some
returns-in-Some c = with_some c.args.rule c.args.task.now _ _ _ c.loop-b.invariant c.in-Some.ensures

pub loop-b-preserved : goal.loop-b-preserved
loop-b-preserved c = with_more c.args.rule c.args.task.now _ _ c.loop-b.invariant c.in_default.ensures

pub returns : goal.returns
returns c = with_none c.args.rule c.args.task.now _ c.told.ensures _ c.loop-b-test.false c.loop-b.invariant
