use Rattle.std.proofs.Common.{arith}
use Rattle.report_path.proofs.Pcs.{between_all, half_up, half_down}
use Rattle.report_path.proofs.places.first_from.Goals as goal

pub loop-low-init : goal.loop-low-init
loop-low-init c = between_all _ _ _ _ c.code_len-high.ensures

pub loop-low-preserved-then-ins-pc : goal.loop-low-preserved-then-ins-pc
loop-low-preserved-then-ins-pc c = half_up _ _ c.told.ensures c.requires _ _ _ _ _ c.loop-low.invariant (omega arith) (omega (arith, c.loop-low-test.true)) c.ins.ensures.pc (omega (arith, c.if-ins-pc.true))

pub loop-low-preserved : goal.loop-low-preserved
loop-low-preserved c = half_down _ _ c.told.ensures c.requires _ _ _ _ _ c.loop-low.invariant (omega arith) (omega (arith, c.loop-low-test.true)) c.ins.ensures.pc (omega (arith, c.if-ins-pc.false))
