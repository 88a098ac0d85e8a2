use Rattle.std.proofs.Common.{arith}
use Rattle.tag_flow.proofs.Turns.{turn_end, turn_more, turn_start}
use Rattle.tag_flow.proofs.sweeping.begin_cells.Goals as goal

pub begin_cell-changed-requires-clause-state : goal.begin_cell-changed-requires-clause-state
begin_cell-changed-requires-clause-state c =
    c.loop-register.invariant.state c.requires.state

pub loop-register-init : goal.loop-register-init
loop-register-init c =
    turn_start _ _ _

pub loop-register-preserved : goal.loop-register-preserved
loop-register-preserved c =
    turn_more _ _ _ _ _ _ _ _ c.loop-register.invariant c.begin_cell-changed.ensures

pub returns : goal.returns
returns c =
    turn_end _ _ _ _ _ _ _ (omega (arith, c.loop-register-test.false, c.requires.begins.spot.width)) c.loop-register.invariant
