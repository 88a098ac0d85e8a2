use Rattle.std.proofs.Common.{◌≡◌, ◌≤◌, Ok}
use Rattle.dex_tables.specs.Reading.{rows_below, string_in, string_len}
use Rattle.dex_tables.specs.Sound.{sum_below}
use Rattle.dex_tables.proofs.strings.read_strings.Given as goal

abbrev pub invariant-loop-i : goal.invariant-loop-i
invariant-loop-i l = record {
  rows : rows_below (string_in l.bytes l.header) l.i ≡ Ok l.strings.items;
  total : l.before ≡ sum_below (string_len l.bytes l.header) l.i;
  limit : l.before ≤ 67108864;
}
