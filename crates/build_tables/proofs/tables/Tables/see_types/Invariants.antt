use Rattle.std.proofs.Common.{◌≡◌, ◌++◌, map, drop, string_bytes}
use Rattle.build_tables.specs.Tables.{types_seen, HasGrown}
use Rattle.build_tables.proofs.tables.Tables.see_types.Given as goal

abbrev pub invariant-loop-name : goal.invariant-loop-name
invariant-loop-name l =
    HasGrown l.initial.self l.self
    × (l.row.items ++ (types_seen (map string_bytes (drop l.name-index l.names)) l.self).found ≡ l.initial.row.items ++ (types_seen (map string_bytes l.initial.names) l.initial.self).found)
    × ((types_seen (map string_bytes (drop l.name-index l.names)) l.self).rows ≡ (types_seen (map string_bytes l.initial.names) l.initial.self).rows)
