use Rattle.std.proofs.Common.{◌≡◌, ◌≤◌, Some}
use Rattle.std.specs.Prelude.{slice_get, reverse}
use Rattle.derivation.proofs.Walk.{AreWalks}
use Rattle.derivation.proofs.making.make_path.Given as goal

abbrev pub invariant-back : goal.invariant-back
invariant-back l = record {
  at : slice_get l.lines l.here ≡ Some l.x;
  low : l.here ≤ l.k;
  walk : AreWalks l.subject.app l.lines l.numbers l.k l.fn.x0 l.here l.x (reverse l.steps.items);
}

abbrev pub decreases-back : goal.decreases-back
decreases-back l = l.here
