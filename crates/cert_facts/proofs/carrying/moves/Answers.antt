use Rattle.std.proofs.Common.{arith}
use Rattle.solution.proofs.Bits.{mask_more, mask_end}
use Rattle.cert_facts.proofs.carrying.moves.Goals as goal

pub loop-number-preserved : goal.loop-number-preserved
loop-number-preserved c = mask_more _ _ _ _ c.loop-number.invariant c.edge_moves-mask.ensures

pub returns : goal.returns
returns c = mask_end _ _ _ (λ e u z. (let below = c.edge_count-number-end.ensures e z.0 z.1 in omega (arith, below, c.loop-number-test.false))) c.loop-number.invariant
