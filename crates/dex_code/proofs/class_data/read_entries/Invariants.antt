use Rattle.std.proofs.Common.{◌≡◌, Ok, vec_len}
use Rattle.dex_code.specs.Alike.{AreKeptNumbers}
use Rattle.dex_code.specs.Reading.{entries_at}
use Rattle.dex_code.proofs.class_data.read_entries.Given as goal

abbrev pub invariant-loop-i : goal.invariant-loop-i
invariant-loop-i l = record {
  entries : entries_at l.bytes l.wanted.class l.wanted.kind l.wanted.before l.at l.i ≡ Ok (record { place = l.end; members = l.members.items });
  len : vec_len l.members ≡ l.i;
  numbers : AreKeptNumbers l.bytes l.numbers;
}
