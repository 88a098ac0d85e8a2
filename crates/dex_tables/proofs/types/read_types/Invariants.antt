use Rattle.std.proofs.Common.{◌≡◌, Ok}
use Rattle.dex_tables.specs.Reading.{rows_below, type_in}
use Rattle.dex_tables.proofs.types.read_types.Given as goal

abbrev pub invariant-loop-t : goal.invariant-loop-t
invariant-loop-t l = rows_below (type_in l.bytes l.header) l.t ≡ Ok l.types.items
