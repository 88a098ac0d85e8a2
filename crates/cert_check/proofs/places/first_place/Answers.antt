use Rattle.std.proofs.Common.{arith, sym, ◌∙◌}
use Rattle.cert_check.proofs.FirstPlaces.{from_more, from_some, from_none}
use Rattle.cert_check.proofs.places.first_place.Goals as goal

pub returns-then-is_some : goal.returns-then-is_some
returns-then-is_some c = from_some c.args.rule c.args.task.now _ _ c.loop-a.invariant c.first_with-found.ensures (sym c.is_some.ensures ∙ c.if-is_some.true)

pub loop-a-preserved : goal.loop-a-preserved
loop-a-preserved c = from_more c.args.rule c.args.task.now _ _ c.loop-a.invariant c.first_with-found.ensures (sym c.is_some.ensures ∙ c.if-is_some.false)

pub returns : goal.returns
returns c = from_none c.args.rule c.args.task.now c.told.ensures _ (omega (arith, c.loop-a-test.false, c.place_count-a-end.ensures)) c.loop-a.invariant
