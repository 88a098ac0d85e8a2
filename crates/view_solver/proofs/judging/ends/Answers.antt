use Rattle.std.proofs.Common.{arith}
use Rattle.solution.proofs.Bits.{mask_none, mask_more, mask_end}
use Rattle.view_solver.proofs.judging.ends.Goals as goal

pub loop-number-init : goal.loop-number-init
loop-number-init c = mask_none _

pub loop-number-preserved : goal.loop-number-preserved
loop-number-preserved c = mask_more _ _ _ _ c.loop-number.invariant c.edge_ends-mask.ensures

pub returns : goal.returns
returns c = mask_end _ _ _ (λ e u z. let below = c.edges_of-number-end.ensures e z.0 z.2 in omega (arith, below, c.loop-number-test.false)) c.loop-number.invariant
