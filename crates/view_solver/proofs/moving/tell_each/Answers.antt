use Rattle.std.proofs.Common.{arith}
use Rattle.solver.proofs.Turns.{turn_start, turn_more, turn_end, facts_kept, no_masks}
use Rattle.view_solver.proofs.Moves.{moves_kept}
use Rattle.view_solver.proofs.moving.tell_each.Goals as goal

pub watch-changed-requires-clause-facts : goal.watch-changed-requires-clause-facts
watch-changed-requires-clause-facts c = facts_kept _ _ _ _ (c.loop-component.invariant no_masks).size c.requires.facts

pub watch-changed-requires-clause-component : goal.watch-changed-requires-clause-component
watch-changed-requires-clause-component c = omega (arith, c.loop-component-test.true, c.component_count-component-end.ensures)

pub watch-changed-requires-clause-moves : goal.watch-changed-requires-clause-moves
watch-changed-requires-clause-moves c = moves_kept _ _ _ _ _ _ (c.loop-component.invariant no_masks).kept c.requires.moves

pub loop-component-init : goal.loop-component-init
loop-component-init c = λ masks. turn_start _ _ _ _

pub loop-component-preserved : goal.loop-component-preserved
loop-component-preserved c = λ masks. turn_more _ _ _ _ _ _ _ _ _ _ _ (c.loop-component.invariant masks) (c.watch-changed.ensures masks)

pub returns : goal.returns
returns c = λ masks. turn_end _ _ _ _ _ _ _ _ _ (omega (arith, c.loop-component-test.false, c.component_count-component-end.ensures)) (c.loop-component.invariant masks)
