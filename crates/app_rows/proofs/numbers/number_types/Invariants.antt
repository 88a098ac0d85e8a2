use Rattle.std.proofs.Common.{◌≡◌, map, take}
use Rattle.app_rows.specs.Numbers.{number_in, string_at}
use Rattle.app_rows.proofs.numbers.number_types.Given as goal

abbrev pub invariant-loop-t : goal.invariant-loop-t
invariant-loop-t l = l.numbers.items ≡ map (number_in l.types) (map (string_at l.file) (take l.t l.file.types))
