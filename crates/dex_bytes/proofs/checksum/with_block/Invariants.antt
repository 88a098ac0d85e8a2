use Rattle.std.proofs.Common.{◌≡◌, ◌+◌, ◌*◌, ◌≤◌, drop, sum}
use Rattle.dex_bytes.specs.Checksum.{sum_of_sums}
use Rattle.dex_bytes.proofs.checksum.with_block.Given as goal

abbrev pub invariant-loop-byte : goal.invariant-loop-byte
invariant-loop-byte l = record {
  first : l.first + sum (drop l.byte-index l.block) ≡ l.initial.first + sum l.block;
  second : l.second + sum_of_sums l.first (drop l.byte-index l.block) ≡ l.initial.second + sum_of_sums l.initial.first l.block;
  first_bound : l.first ≤ 65520 + 255 * l.byte-index;
  second_bound : 2 * l.second ≤ 131040 + 131040 * l.byte-index + 255 * (l.byte-index * l.byte-index + l.byte-index);
}
