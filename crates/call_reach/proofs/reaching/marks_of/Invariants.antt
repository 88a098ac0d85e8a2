use Rattle.std.proofs.Common.{◌≡◌, map, take}
use Rattle.call_reach.specs.Starts.{has_first_bit}
use Rattle.call_reach.proofs.reaching.marks_of.Given as goal

abbrev pub invariant-loop-method : goal.invariant-loop-method
invariant-loop-method l = l.marks.items ≡ map has_first_bit (take l.method l.words)
