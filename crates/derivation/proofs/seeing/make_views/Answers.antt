use Rattle.std.proofs.Common.{◌≡◌, ℕ, length, arith, subst}
use Rattle.derivation.specs.Cuts.{AreSeen}
use Rattle.derivation.proofs.seeing.make_views.Goals as goal

pub returns : goal.returns
returns c = λ lines.
    (let all : c.loop-k.k ≡ length c.args.views.now = omega arith in
    subst (λ (k : ℕ). AreSeen lines c.args.views.now c.args.marks.now c.args.numbers.now c.loop-k.seen.places.items c.loop-k.seen.views.items k) all (c.loop-k.invariant lines))
