use Rattle.std.proofs.Common.{◌≡◌, ◌++◌, take}
use Rattle.tag_flow.specs.Known.{chosen}
use Rattle.tag_flow.proofs.known.add_entries.Given as goal

abbrev pub invariant-loop-i : goal.invariant-loop-i
invariant-loop-i l = l.entries.items ≡ l.fn.entries.items ++ chosen (take l.i l.methods)
