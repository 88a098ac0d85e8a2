use Rattle.std.proofs.Common.{arith}
use Rattle.tag_flow.proofs.Turns.{turn_end, turn_more, turn_start}
use Rattle.tag_flow.proofs.sweeping.visit_code.Goals as goal

pub visit-changed-requires-clause-state : goal.visit-changed-requires-clause-state
visit-changed-requires-clause-state c =
    c.loop-index.invariant.state c.requires.state

pub loop-index-init : goal.loop-index-init
loop-index-init c =
    turn_start _ _ _

pub loop-index-preserved : goal.loop-index-preserved
loop-index-preserved c =
    turn_more _ _ _ _ _ _ _ _ c.loop-index.invariant (rw (c.spot-spot.ensures.method, c.spot-spot.ensures.index) at c.visit-changed.ensures)

pub returns : goal.returns
returns c =
    turn_end _ _ _ _ _ _ _ (omega (arith, c.loop-index-test.false, c.code_len-index-end.ensures)) c.loop-index.invariant
