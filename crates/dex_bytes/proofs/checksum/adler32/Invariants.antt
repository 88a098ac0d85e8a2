use Rattle.std.proofs.Common.{◌≡◌, ◌<◌, length}
use Rattle.dex_bytes.specs.Checksum.{adler_from}
use Rattle.dex_bytes.proofs.checksum.adler32.Given as goal

abbrev pub invariant-loop-rest : goal.invariant-loop-rest
invariant-loop-rest l = record {
  sums : adler_from l.sums.first l.sums.second l.rest ≡ adler_from 1 0 l.bytes;
  first : l.sums.first < 65521;
  second : l.sums.second < 65521;
}

abbrev pub decreases-loop-rest : goal.decreases-loop-rest
decreases-loop-rest l = length l.rest
