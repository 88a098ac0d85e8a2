use Rattle.std.proofs.Common.{◌≡◌, ◌+◌, ◌++◌, vec_len}
use Rattle.dex_tables.specs.Reading.{list_below}
use Rattle.dex_tables.specs.Rows.{list_entry}
use Rattle.dex_tables.proofs.lists.add_entries.Given as goal

abbrev pub invariant-loop-k : goal.invariant-loop-k
invariant-loop-k l = (l.lists.items ≡ l.initial.lists.items ++ list_below (list_entry l.bytes l.off) l.k) × (vec_len l.lists ≡ vec_len l.initial.lists + l.k)
