use Rattle.std.proofs.Common.{◌≡◌, ◌++◌, take}
use Rattle.std.specs.List.{filter}
use Rattle.call_targets.specs.Below.{is_met_class}
use Rattle.call_targets.proofs.below.Below.candidates.Given as goal

abbrev pub invariant-loop-i : goal.invariant-loop-i
invariant-loop-i l = l.classes.items ≡ l.self.roots ++ filter (is_met_class l.app l.self.walk.kinds) (take l.i l.declaring)
