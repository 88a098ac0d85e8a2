use Rattle.std.proofs.Common.{◌≡◌, ◌≤◌, ◌+◌, length, map, drop}
use Rattle.app_rows.specs.Numbers.{with_new, proto_numbers}
use Rattle.app_rows.proofs.numbers.see_protos.Given as goal

abbrev pub invariant-loop-p : goal.invariant-loop-p
invariant-loop-p l = (with_new l.protos (map (proto_numbers l.types) (drop l.p l.file.protos)) ≡ with_new l.initial.protos (map (proto_numbers l.types) l.file.protos)) × (length l.protos ≤ length l.initial.protos + l.p)
