use Rattle.std.proofs.Common.{◌≡◌, take}
use Rattle.std.specs.Prelude.{filter_map}
use Rattle.class_graph.specs.Answers.{found_number}
use Rattle.call_targets.proofs.found.numbers_of.Given as goal

abbrev pub invariant-loop-i : goal.invariant-loop-i
invariant-loop-i l = l.numbers.items ≡ filter_map found_number (take l.i l.found)
