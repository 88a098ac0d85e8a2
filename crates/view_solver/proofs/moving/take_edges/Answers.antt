use Rattle.std.proofs.Common.{arith}
use Rattle.solver.proofs.Turns.{turn_start, turn_more, turn_every, facts_kept, no_masks}
use Rattle.view_solver.proofs.moving.take_edges.Goals as goal

pub take_edge-changed-requires-clause-facts : goal.take_edge-changed-requires-clause-facts
take_edge-changed-requires-clause-facts c = facts_kept _ _ _ _ (c.loop-number.invariant no_masks).size c.requires.facts

pub loop-number-init : goal.loop-number-init
loop-number-init c = λ masks. turn_start _ _ _ _

pub loop-number-preserved : goal.loop-number-preserved
loop-number-preserved c = λ masks. turn_more _ _ _ _ _ _ _ _ _ _ _ (c.loop-number.invariant masks) (c.take_edge-changed.ensures masks)

pub returns : goal.returns
returns c = λ masks. turn_every _ _ _ _ _ _ _ _ (λ k le ms t edge is. absurd (let below = c.edges_of-number-end.ensures k edge is in omega (arith, below, le, c.loop-number-test.false))) (c.loop-number.invariant masks)
