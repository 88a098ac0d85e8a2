use Rattle.std.proofs.Common.{◌∙◌, arith}
use Rattle.dex_bytes.proofs.Sums.{adler_from_cut}
use Rattle.dex_bytes.proofs.checksum.adler32.Goals as goal

pub loop-rest-preserved : goal.loop-rest-preserved
loop-rest-preserved c = record {
  sums = adler_from_cut _ _ _ _ _ _ _ _ c.split_at.ensures.front c.split_at.ensures.back c.with_block-sums.ensures.first c.with_block-sums.ensures.second ∙ c.loop-rest.invariant.sums;
  first = omega arith;
  second = omega arith;
}
