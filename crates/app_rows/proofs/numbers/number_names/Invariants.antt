use Rattle.std.proofs.Common.{◌≡◌, map, take}
use Rattle.app_rows.specs.Numbers.{number_in}
use Rattle.app_rows.proofs.numbers.number_names.Given as goal

abbrev pub invariant-loop-s : goal.invariant-loop-s
invariant-loop-s l = l.numbers.items ≡ map (number_in l.names) (map (λ v. v.items) (take l.s l.strings))
