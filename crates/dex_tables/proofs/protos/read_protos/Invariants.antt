use Rattle.std.proofs.Common.{◌≡◌, ◌≤◌, Ok, vec_len}
use Rattle.dex_tables.specs.Reading.{rows_below, proto_in, params_total, all_params}
use Rattle.dex_tables.proofs.protos.read_protos.Given as goal

abbrev pub invariant-loop-p : goal.invariant-loop-p
invariant-loop-p l = record {
  rows : rows_below (proto_in l.bytes l.header) l.p ≡ Ok l.protos.items;
  lists : l.lists.items ≡ all_params l.bytes l.header l.p;
  len : vec_len l.lists ≡ params_total l.bytes l.header l.p;
  limit : vec_len l.lists ≤ 4194304;
}
