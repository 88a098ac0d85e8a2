use Rattle.std.proofs.Common.{arith}
use Rattle.view_solver.proofs.Relations.{moves_start, moves_more, moves_end}
use Rattle.view_solver.proofs.carrying.moves.Goals as goal

pub loop-number-init : goal.loop-number-init
loop-number-init c = moves_start _ _ _ _

pub loop-number-preserved : goal.loop-number-preserved
loop-number-preserved c = moves_more _ _ _ _ _ _ _ c.loop-number.invariant c.edge_moves-word.ensures

pub returns : goal.returns
returns c = moves_end _ _ _ _ _ _ (λ e edge is. let below = c.edges_of-number-end.ensures e edge is in omega (arith, below, c.loop-number-test.false)) c.loop-number.invariant
