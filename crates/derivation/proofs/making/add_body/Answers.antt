use Rattle.std.proofs.Common.{sym, refl}
use Rattle.derivation.specs.Cuts.{IsPathOf}
use Rattle.derivation.proofs.Bodies.{no_body, none_more, one_more}
use Rattle.derivation.proofs.making.add_body.Goals as goal

pub returns-in_default : goal.returns-in_default
returns-in_default c =
    rw c.in_ok-push.ensures.items (no_body _ _ _ _ c.args.made.now.numbers.items c.args.made.now.bodies.items c.line_at-x.result c.line_at-x.ensures c.in_default.ensures)

pub returns-then-not-is_marked : goal.returns-then-not-is_marked
returns-then-not-is_marked c =
    rw c.in_ok-push-2.ensures.items (none_more _ _ _ _ c.args.made.now.numbers.items c.args.made.now.bodies.items c.line_at-x.result c.line_at-x.ensures (λ ends m e. (let n = c.is_marked.ensures.1 m in let off = c.if-not-is_marked.true in cc)))

pub returns : goal.returns
returns c =
    let path : IsPathOf c.args.subject.now c.args.lines.now c.args.made.now.numbers.items c.args.k c.line_at-x.result c.in_ok-steps.steps.items = rw c.deref.ensures.value at c.in_ok-steps.ensures in
    rw (c.in_ok-push-4.ensures.items, c.in_ok-push-3.ensures.items, c.len-number.ensures, c.args.made.now.bodies.ok.0) (one_more _ _ _ _ c.args.made.now.numbers.items c.args.made.now.bodies.items c.line_at-x.result c.line_at-x.ensures c.in-Some.thrown (sym c.in-Some.ensures) (c.is_marked.ensures.0 c.if-not-is_marked.false) _ refl refl refl refl path)
