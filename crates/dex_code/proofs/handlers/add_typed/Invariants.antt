use Rattle.std.proofs.Common.{◌≡◌, ◌≤◌, Ok, vec_len}
use Rattle.dex_code.specs.Reading.{all_typed}
use Rattle.dex_code.proofs.handlers.add_typed.Given as goal

abbrev pub invariant-loop-i : goal.invariant-loop-i
invariant-loop-i l = record {
  typed : all_typed l.bytes l.bounds l.t l.at l.initial.handlers.items l.i ≡ Ok (record { place = l.end; handlers = l.handlers.items });
  len : (vec_len l.initial.handlers ≤ vec_len l.handlers) × (vec_len l.handlers ≤ 4194304);
}
