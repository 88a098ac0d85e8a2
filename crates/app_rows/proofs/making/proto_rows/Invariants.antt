use Rattle.std.proofs.Common.{◌≡◌, map, take}
use Rattle.app_rows.specs.Linked.{proto_row}
use Rattle.app_rows.proofs.making.proto_rows.Given as goal

abbrev pub invariant-loop-p : goal.invariant-loop-p
invariant-loop-p l = l.rows.items ≡ map proto_row (map (λ v. v.items) (take l.p l.protos))
