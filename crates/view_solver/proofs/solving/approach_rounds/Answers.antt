use Rattle.solver.proofs.Turns.{facts_kept, keeps_none, keeps_more, keeps_turn, no_masks, round_falls}
use Rattle.solver.proofs.Visits.{are_led_kept}
use Rattle.view_solver.proofs.Closed.{whole_keeps}
use Rattle.view_solver.proofs.solving.approach_rounds.Goals as goal

pub loop-changed-init : goal.loop-changed-init
loop-changed-init g c = record { keeps = keeps_none _ _ _; led = c.requires.led }

pub approach_calls-requires-clause-facts : goal.approach_calls-requires-clause-facts
approach_calls-requires-clause-facts g c = facts_kept _ _ _ _ c.loop-changed.invariant.keeps.size c.requires.facts

pub move_all-changed-requires : goal.move_all-changed-requires
move_all-changed-requires g c = facts_kept _ _ _ _ c.approach_calls.ensures.keeps.size (facts_kept _ _ _ _ c.loop-changed.invariant.keeps.size c.requires.facts)

pub loop-changed-preserved : goal.loop-changed-preserved
loop-changed-preserved g c = record {
  keeps = keeps_more _ _ _ _ _ _ _ c.loop-changed.invariant.keeps (keeps_more _ _ _ _ _ _ _ (whole_keeps _ _ _ _ _ _ c.approach_calls.ensures.keeps) (keeps_turn _ _ _ _ _ _ _ (c.move_all-changed.ensures _)));
  led = are_led_kept _ _ _ _ _ _ (c.move_all-changed.ensures no_masks).kept c.approach_calls.ensures.led;
}

pub loop-changed-smaller : goal.loop-changed-smaller
loop-changed-smaller g c = rw c.loop-changed-test.true (round_falls _ _ _ _ _ _ _ _ c.approach_calls.ensures.keeps.room (c.move_all-changed.ensures no_masks))

pub returns-in_err-approach_calls-clause-keeps : goal.returns-in_err-approach_calls-clause-keeps
returns-in_err-approach_calls-clause-keeps g c = keeps_more _ _ _ _ _ _ _ c.loop-changed.invariant.keeps (whole_keeps _ _ _ _ _ _ c.approach_calls.ensures.keeps)
