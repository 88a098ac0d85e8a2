use Rattle.std.proofs.Common.{◌≡◌, Ok}
use Rattle.dex_tables.specs.Reading.{named, rows_below, list_below}
use Rattle.dex_tables.specs.Rows.{list_entry}
use Rattle.dex_tables.proofs.lists.check_entries.Given as goal

abbrev pub invariant-loop-k : goal.invariant-loop-k
invariant-loop-k l = rows_below (λ k. named l.by.table l.by.row l.by.types (list_entry l.bytes l.off k)) l.k ≡ Ok (list_below (list_entry l.bytes l.off) l.k)
