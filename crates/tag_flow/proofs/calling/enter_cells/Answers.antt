use Rattle.std.proofs.Common.{arith}
use Rattle.tag_flow.proofs.Turns.{source_kept, turn_end, turn_more, turn_none}
use Rattle.tag_flow.proofs.calling.enter_cells.Goals as goal

pub enter_cell-changed-requires-clause-source : goal.enter_cell-changed-requires-clause-source
enter_cell-changed-requires-clause-source c =
    source_kept _ _ _ _ _ _ c.loop-register.invariant c.requires.source

pub loop-register-init : goal.loop-register-init
loop-register-init c =
    turn_none _ _ _ (λ r lt. c.first_open-first.ensures _ r lt)

pub loop-register-preserved : goal.loop-register-preserved
loop-register-preserved c =
    turn_more _ _ _ _ _ _ _ _ c.loop-register.invariant c.enter_cell-changed.ensures

pub returns : goal.returns
returns c =
    turn_end _ _ _ _ _ _ _ (omega (arith, c.loop-register-test.false, c.requires.enters.spot.width)) c.loop-register.invariant
