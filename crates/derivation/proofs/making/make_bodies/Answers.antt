use Rattle.std.proofs.Common.{◌≡◌, ℕ, length, arith, subst}
use Rattle.derivation.specs.Cuts.{AreMade}
use Rattle.derivation.proofs.making.make_bodies.Goals as goal

pub returns : goal.returns
returns c =
    let all : c.loop-k.k ≡ length c.args.lines.now = omega arith in
    subst (λ (k : ℕ). AreMade c.args.subject.now c.args.lines.now c.args.marks.now c.loop-k.made.numbers.items c.loop-k.made.bodies.items k) all c.loop-k.invariant
