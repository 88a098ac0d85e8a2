use Rattle.solver.proofs.Turns.{turn_start, turn_more, turn_end, no_masks}
use Rattle.solver.proofs.Visits.{open_after, callee_turn, callee_there}
use Rattle.solver.proofs.calls.call_each.Goals as goal

pub call-changed-requires-clause-called : goal.call-changed-requires-clause-called
call-changed-requires-clause-called c = callee_there c.args.task.now.subject.now c.args.task.now.lock.0 _ _ _ _ _ c.requires.callees c.loop-number-test.true

pub call-changed-requires-clause-opened : goal.call-changed-requires-clause-opened
call-changed-requires-clause-opened c = open_after _ _ _ _ _ _ _ _ _ _ _ (c.loop-number.invariant no_masks) c.requires.opened

pub loop-number-init : goal.loop-number-init
loop-number-init c = λ masks. turn_start _ _ _ _

pub loop-number-preserved : goal.loop-number-preserved
loop-number-preserved c = λ masks. turn_more _ _ _ _ _ _ _ _ _ _ _ (c.loop-number.invariant masks) (callee_turn _ _ masks _ _ _ _ _ _ _ _ _ c.requires.callees c.loop-number-test.true (c.call-changed.ensures masks))

pub returns : goal.returns
returns c = λ masks. turn_end _ _ _ _ _ _ _ _ _ (rw c.requires.callees at c.loop-number-test.false) (c.loop-number.invariant masks)
