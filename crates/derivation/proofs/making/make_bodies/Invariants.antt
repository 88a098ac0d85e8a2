use Rattle.derivation.specs.Cuts.{AreMade}
use Rattle.derivation.proofs.making.make_bodies.Given as goal

abbrev pub invariant-loop-k : goal.invariant-loop-k
invariant-loop-k l = AreMade l.subject l.lines l.marks l.made.numbers.items l.made.bodies.items l.k
