use Rattle.std.proofs.Common.{arith, sym, refl}
use Rattle.report_path.proofs.Lists.{take_get}
use Rattle.derivation.proofs.Walk.{walk_more, walk_ends, walk_stops, why_entered, why_led}
use Rattle.derivation.proofs.making.make_path.Goals as goal

pub back-init : goal.back-init
back-init c = record { at = c.requires; low = omega arith; walk = λ t own l marks bodies r m. (m, rw c.new-steps.ensures.items refl) }

pub returns-in_default : goal.returns-in_default
returns-in_default c =
    rw (c.in_ok-path.ensures, c.deref.ensures.value) (walk_ends _ _ _ _ _ _ _ c.back.steps.items c.back.invariant.at c.back.invariant.low c.back.invariant.walk (why_entered _ c.in_default.ensures) c.args.subject.now refl)

pub returns-in_default-lower_line : goal.returns-in_default-lower_line
returns-in_default-lower_line c =
    rw (c.in_ok-path-2.ensures, c.deref-in_default-lower_line.ensures.value) (walk_stops _ _ _ _ _ _ _ c.back.steps.items c.back.invariant.at c.back.invariant.low c.back.invariant.walk _ _ (why_led _ _ c.in-Some.ensures) c.in_default-lower_line.ensures c.args.subject.now refl)

pub back-smaller : goal.back-smaller
back-smaller c = rw c.place_of-here.ensures (take_get _ _ _ _ (sym c.in-Some-lower_line.ensures)).0

pub back-preserved : goal.back-preserved
back-preserved c =
    let g = take_get c.args.lines.now c.back.here c.in-Some.from c.in-Some-lower_line.y (sym c.in-Some-lower_line.ensures) in
    rw c.place_of-here.ensures (record {
      at = g.1;
      low = omega (arith, g.0, c.back.invariant.low);
      walk = rw (c.in_ok-push.ensures.items, c.number_at.ensures, c.line_ended.ensures) (walk_more _ _ _ _ _ _ _ c.back.steps.items c.back.invariant.at c.back.invariant.low c.back.invariant.walk _ _ (why_led _ _ c.in-Some.ensures) _ _ (sym c.in-Some-lower_line.ensures) c.goal_pc-pc.ensures);
    })
