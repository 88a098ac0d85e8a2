use Rattle.std.proofs.Common.{◌≡◌, map, take}
use Rattle.app_rows.specs.Numbers.{number_in, proto_numbers}
use Rattle.app_rows.proofs.numbers.number_protos.Given as goal

abbrev pub invariant-loop-p : goal.invariant-loop-p
invariant-loop-p l = l.numbers.items ≡ map (number_in l.protos) (map (proto_numbers l.types) (take l.p l.file.protos))
