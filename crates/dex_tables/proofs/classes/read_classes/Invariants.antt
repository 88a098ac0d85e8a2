use Rattle.std.proofs.Common.{◌≡◌, ◌≤◌, ◌++◌, Ok, vec_len}
use Rattle.dex_tables.specs.Reading.{rows_below, class_in, interfaces_total, all_interfaces}
use Rattle.dex_tables.proofs.classes.read_classes.Given as goal

abbrev pub invariant-loop-c : goal.invariant-loop-c
invariant-loop-c l = record {
  rows : rows_below (class_in l.bytes l.header) l.c ≡ Ok l.classes.items;
  lists : l.lists.items ≡ l.initial.lists.items ++ all_interfaces l.bytes l.header l.c;
  len : vec_len l.lists ≡ interfaces_total l.bytes l.header l.c;
  limit : vec_len l.lists ≤ 4194304;
}
