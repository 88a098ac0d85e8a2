use Rattle.std.proofs.Common.{arith, rules}
use Rattle.cert_facts.proofs.Sought.{half_up, half_down}
use Rattle.cert_facts.proofs.rows.first_from.Goals as goal

pub loop-low-preserved-then-rank-bound : goal.loop-low-preserved-then-rank-bound
loop-low-preserved-then-rank-bound g c = half_up _ _ _ _ _ _ _ c.requires c.loop-low.invariant (omega arith) (omega (arith, c.loop-low-test.true)) c.index-rows-middle.is (search rules)

pub loop-low-preserved : goal.loop-low-preserved
loop-low-preserved g c = half_down _ _ _ _ _ _ _ c.requires c.loop-low.invariant (omega arith) (omega (arith, c.loop-low-test.true)) c.index-rows-middle.is (search rules)
