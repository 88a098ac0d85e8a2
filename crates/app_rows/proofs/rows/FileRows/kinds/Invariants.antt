use Rattle.std.proofs.Common.{◌≡◌, map, take}
use Rattle.app_rows.specs.Linked.{type_at}
use Rattle.app_rows.proofs.rows.FileRows.kinds.Given as goal

abbrev pub invariant-loop-row : goal.invariant-loop-row
invariant-loop-row l = l.kinds.items ≡ map (type_at l.self) (take l.row-index l.list)
