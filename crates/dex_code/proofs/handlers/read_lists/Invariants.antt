use Rattle.std.proofs.Common.{◌≡◌, Ok}
use Rattle.dex_code.specs.Order.{IsRising, AllBelow}
use Rattle.dex_code.specs.Reading.{lists_at}
use Rattle.dex_code.proofs.handlers.read_lists.Given as goal

abbrev pub invariant-loop-i : goal.invariant-loop-i
invariant-loop-i l = record {
  lists : lists_at l.bytes l.at l.i ≡ Ok (record { place = l.end; starts = l.starts.items });
  rising : IsRising l.starts.items;
  below : AllBelow l.starts.items l.end;
}
