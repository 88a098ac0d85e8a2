use Rattle.std.proofs.Common.{◌≡◌, Ok}
use Rattle.dex_tables.specs.Reading.{rows_below, field_in}
use Rattle.dex_tables.proofs.fields.read_fields.Given as goal

abbrev pub invariant-loop-f : goal.invariant-loop-f
invariant-loop-f l = rows_below (field_in l.bytes l.header) l.f ≡ Ok l.fields.items
