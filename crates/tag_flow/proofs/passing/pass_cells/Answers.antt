use Rattle.std.proofs.Common.{arith}
use Rattle.tag_flow.proofs.Running.{below_some}
use Rattle.tag_flow.proofs.Turns.{step_kept, turn_end, turn_start}
use Rattle.tag_flow.proofs.passing.pass_cells.Goals as goal

pub pass_part-part-requires-clause-step : goal.pass_part-part-requires-clause-step
pass_part-part-requires-clause-step c =
    step_kept _ _ _ _ _ _ c.loop-register.invariant c.requires.step

pub loop-register-init : goal.loop-register-init
loop-register-init c =
    turn_start _ _ _

pub loop-register-preserved : goal.loop-register-preserved
loop-register-preserved c =
    below_some _ _ _ _ _ _ _ _ _ c.loop-register.invariant c.pass_part-part.ensures.turn

pub returns : goal.returns
returns c =
    turn_end _ _ _ _ _ _ _ (omega (arith, c.loop-register-test.false, c.requires.step.source.spot.width)) c.loop-register.invariant
