use Rattle.std.proofs.Common.{arith}
use Rattle.solver.proofs.Turns.{turn_start, turn_more, turn_end, facts_kept, no_masks}
use Rattle.view_solver.proofs.moving.move_all.Goals as goal

pub move_one-changed-requires-clause-facts : goal.move_one-changed-requires-clause-facts
move_one-changed-requires-clause-facts c = facts_kept _ _ _ _ (c.loop-component.invariant no_masks).size c.requires

pub move_one-changed-requires-clause-component : goal.move_one-changed-requires-clause-component
move_one-changed-requires-clause-component c = omega (arith, c.loop-component-test.true, c.component_count-component-end.ensures)

pub loop-component-init : goal.loop-component-init
loop-component-init c = λ masks. turn_start _ _ _ _

pub loop-component-preserved : goal.loop-component-preserved
loop-component-preserved c = λ masks. turn_more _ _ _ _ _ _ _ _ _ _ _ (c.loop-component.invariant masks) (c.move_one-changed.ensures masks)

pub returns : goal.returns
returns c = λ masks. turn_end _ _ _ _ _ _ _ _ _ (omega (arith, c.loop-component-test.false, c.component_count-component-end.ensures)) (c.loop-component.invariant masks)
