use Rattle.std.proofs.Common.{◌++◌, List, Option, ℕ, map, take}
use Rattle.call_targets.specs.Looking.{AreFound, look_at}
use Rattle.call_targets.proofs.looking.look_tops.Given as goal

abbrev pub invariant-loop-i : goal.invariant-loop-i
invariant-loop-i l = (numbers : List (Option ℕ)) → AreFound l.app numbers l.initial.found.items → AreFound l.app (numbers ++ map (look_at l.app l.source.name l.source.proto) (take l.i l.tops)) l.found.items
