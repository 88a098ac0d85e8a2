use Rattle.std.proofs.Common.{◌≡◌, take}
use Rattle.call_targets.specs.Below.{tops_of}
use Rattle.call_targets.proofs.below.find_tops.Given as goal

abbrev pub invariant-loop-i : goal.invariant-loop-i
invariant-loop-i l = l.tops.items ≡ tops_of l.app (take l.i l.walk.kinds)
