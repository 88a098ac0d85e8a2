use Rattle.std.proofs.Common.{◌≡◌, ◌≤◌, Ok, vec_len}
use Rattle.dex_code.specs.Reading.{rows_at}
use Rattle.dex_code.proofs.tries.read_rows.Given as goal

abbrev pub invariant-loop-t : goal.invariant-loop-t
invariant-loop-t l = record {
  rows : rows_at l.bytes l.at l.starts l.t ≡ Ok (record { tries = l.tries.items; handlers = l.handlers.items });
  room : vec_len l.handlers ≤ 4194304;
}
