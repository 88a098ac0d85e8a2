use Rattle.std.proofs.Common.{arith}
use Rattle.tag_flow.proofs.Turns.{turn_end, turn_more, turn_start}
use Rattle.tag_flow.proofs.sweeping.visit_all.Goals as goal

pub visit_method-changed-requires-clause-state : goal.visit_method-changed-requires-clause-state
visit_method-changed-requires-clause-state c =
    c.loop-method.invariant.state c.requires

pub loop-method-init : goal.loop-method-init
loop-method-init c =
    turn_start _ _ _

pub loop-method-preserved : goal.loop-method-preserved
loop-method-preserved c =
    turn_more _ _ _ _ _ _ _ _ c.loop-method.invariant c.visit_method-changed.ensures

pub returns : goal.returns
returns c =
    turn_end _ _ _ _ _ _ _ (omega (arith, c.loop-method-test.false, c.method_count-method-end.ensures)) c.loop-method.invariant
