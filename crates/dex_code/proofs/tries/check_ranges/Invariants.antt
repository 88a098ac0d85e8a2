use Rattle.std.proofs.Common.{◌≡◌, ◌<◌, ◌≤◌, length, Ok}
use Rattle.dex_code.specs.CodeItem.{try_place}
use Rattle.dex_code.specs.Reading.{ranges_at}
use Rattle.dex_code.proofs.tries.check_ranges.Given as goal

abbrev pub invariant-loop-t : goal.invariant-loop-t
invariant-loop-t l = record {
  ranges : ranges_at l.bytes l.at l.t ≡ Ok l.checked;
  in_file : 0 < l.t → try_place l.bytes l.at l.t ≤ length l.bytes;
}
