use Rattle.std.proofs.Common.{◌≡◌, ◌++◌, map, take}
use Rattle.nosleep.specs.Events.{held_of}
use Rattle.nosleep.proofs.events.push_helds.Given as goal

abbrev pub invariant-loop-violation : goal.invariant-loop-violation
invariant-loop-violation l = l.events.items ≡ l.initial.events.items ++ map held_of (take l.violation-index l.found)
