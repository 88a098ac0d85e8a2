use Rattle.std.proofs.Common.{◌≡◌, map, take}
use Rattle.app_rows.specs.Linked.{type_no}
use Rattle.app_rows.proofs.making.type_list.Given as goal

abbrev pub invariant-loop-number : goal.invariant-loop-number
invariant-loop-number l = l.types.items ≡ map type_no (take l.number-index l.numbers)
