use Rattle.std.proofs.Common.{arith}
use Rattle.solver.proofs.Turns.{turn_start, turn_more, turn_end, facts_kept}
use Rattle.solver.proofs.Visits.{led_after}
use Rattle.solver.proofs.sweep.rise.Goals as goal

pub visit_method-changed-requires-clause-facts : goal.visit_method-changed-requires-clause-facts
visit_method-changed-requires-clause-facts g c = facts_kept _ _ _ _ c.loop-method.invariant.size c.requires.facts

pub visit_method-changed-requires-clause-method : goal.visit_method-changed-requires-clause-method
visit_method-changed-requires-clause-method g c = omega (arith, c.loop-method-test.true, c.method_count-method-end.ensures)

pub visit_method-changed-requires-clause-led : goal.visit_method-changed-requires-clause-led
visit_method-changed-requires-clause-led g c = led_after _ _ _ _ _ _ _ _ _ c.loop-method.invariant c.requires.led

pub loop-method-init : goal.loop-method-init
loop-method-init g c = turn_start _ _ _ _

pub loop-method-preserved : goal.loop-method-preserved
loop-method-preserved g c = turn_more _ _ _ _ _ _ _ _ _ _ _ c.loop-method.invariant c.visit_method-changed.ensures

pub returns : goal.returns
returns g c = turn_end _ _ _ _ _ _ _ _ _ (omega (arith, c.loop-method-test.false, c.method_count-method-end.ensures)) c.loop-method.invariant
