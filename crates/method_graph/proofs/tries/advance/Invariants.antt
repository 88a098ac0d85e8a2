use Rattle.std.proofs.Common.{◌-◌, length}
use Rattle.method_graph.specs.Tries.{IsPast}
use Rattle.method_graph.proofs.tries.advance.Given as goal

abbrev pub invariant-loop-at : goal.invariant-loop-at
invariant-loop-at l = IsPast l.tries l.at l.pc

abbrev pub decreases-loop-at : goal.decreases-loop-at
decreases-loop-at l = length l.tries - l.at
