use Rattle.std.proofs.Common.{◌≡◌, map}
use Rattle.std.specs.List.{range_with_len}
use Rattle.component_list.specs.Binding.{numbers_at}
use Rattle.component_list.proofs.numbers.find_callbacks.Given as goal

abbrev pub invariant-loop-number : goal.invariant-loop-number
invariant-loop-number l = l.found.items ≡ map (numbers_at l.app l.kind) (range_with_len 0 l.number)
