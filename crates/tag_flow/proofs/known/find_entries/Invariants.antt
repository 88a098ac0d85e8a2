use Rattle.std.proofs.Common.{◌≡◌, take}
use Rattle.std.specs.Prelude.{flat_map}
use Rattle.tag_flow.proofs.Reached.{own_entries}
use Rattle.tag_flow.proofs.known.find_entries.Given as goal

abbrev pub invariant-loop-component : goal.invariant-loop-component
invariant-loop-component l = l.entries.items ≡ flat_map own_entries (take l.component l.list)
