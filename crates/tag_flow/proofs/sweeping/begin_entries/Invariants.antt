use Rattle.tag_flow.specs.Turns.{Turn}
use Rattle.tag_flow.specs.Goals.{Below, EntryNoBegun}
use Rattle.tag_flow.proofs.sweeping.begin_entries.Given as goal

abbrev pub invariant-loop-i : goal.invariant-loop-i
invariant-loop-i l = Turn l.known (Below (EntryNoBegun l.known) l.i) l.fn.state l.state l.changed
