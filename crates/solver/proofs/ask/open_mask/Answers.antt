use Rattle.std.proofs.Common.{arith}
use Rattle.solution.proofs.Bits.{mask_first, mask_more, mask_end}
use Rattle.solver.proofs.ask.open_mask.Goals as goal

pub loop-status-init : goal.loop-status-init
loop-status-init c = mask_first _ _ (λ k t h. c.first_of-status.ensures k h.1)

pub loop-status-preserved : goal.loop-status-preserved
loop-status-preserved c = mask_more _ _ _ _ c.loop-status.invariant c.open_one-mask.ensures

pub returns : goal.returns
returns c = mask_end _ _ _ (λ k t h. let less = c.end_of-status-end.ensures.above k h.1 in omega (arith, less, c.loop-status-test.false)) c.loop-status.invariant
