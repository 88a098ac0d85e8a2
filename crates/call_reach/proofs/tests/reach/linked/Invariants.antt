use Rattle.call_reach.specs.Spread.{AreWithin}
use Rattle.call_reach.proofs.tests.reach.linked.Given as goal

abbrev pub invariant-loop-i : goal.invariant-loop-i
invariant-loop-i l = AreWithin 6 l.links
