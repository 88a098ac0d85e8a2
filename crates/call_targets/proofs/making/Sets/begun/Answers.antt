use Rattle.std.proofs.Common.{◌≡◌, arith, length, refl}
use Rattle.call_targets.proofs.Fills.{places_begun, sets_begun}
use Rattle.call_targets.proofs.making.Sets.begun.Goals as goal

pub invariant_of-result : goal.invariant_of-result
invariant_of-result c =
    let all : c.loop-place._place ≡ length c.args.plan.items = omega (arith, c.loop-place-test.false, c.loop-place.auto._place-end, c.len-place-end.ensures, c.args.plan.ok.0) in
    places_begun c.args.plan.items c.loop-place.rows.items c.loop-place.made.items c.loop-place._place all c.loop-place.invariant.rows c.loop-place.invariant.made

pub returns : goal.returns
returns c =
    let all : c.loop-place._place ≡ length c.args.plan.items = omega (arith, c.loop-place-test.false, c.loop-place.auto._place-end, c.len-place-end.ensures, c.args.plan.ok.0) in
    (refl, λ app. sets_begun c.args.plan.items c.loop-place.rows.items c.loop-place.made.items c.loop-place._place all c.loop-place.invariant.rows c.loop-place.invariant.made app)
