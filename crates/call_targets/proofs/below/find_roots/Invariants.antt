use Rattle.std.proofs.Common.{◌≡◌, take}
use Rattle.call_targets.specs.Below.{roots_of}
use Rattle.call_targets.proofs.below.find_roots.Given as goal

abbrev pub invariant-loop-i : goal.invariant-loop-i
invariant-loop-i l = l.roots.items ≡ roots_of l.app l.few l.walk.kinds (take l.i l.walk.kinds)
