use Rattle.std.proofs.Common.{arith}
use Rattle.cert_facts.proofs.Sought.{rises_more}
use Rattle.cert_facts.proofs.rows.is_rising.Goals as goal

pub loop-k-preserved : goal.loop-k-preserved
loop-k-preserved g c = rises_more g.R.Ranked.number _ _ _ _ c.loop-k.invariant (omega arith) (omega (arith, c.loop-k-test.true)) c.index-rows-k-in-loop-k.is c.index-rows-k.is (rw (c.rank-in-loop-k.ensures, c.rank.ensures) at c.if-rank.false)
