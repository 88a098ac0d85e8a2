use Rattle.std.proofs.Common.{◌∙◌, refl, arith}
use Rattle.solver.proofs.Turns.{facts_kept, no_masks, round_falls}
use Rattle.solver.proofs.Visits.{are_led_kept}
use Rattle.view_solver.proofs.Closed.{whole_below, whole_least, least_closed}
use Rattle.view_solver.proofs.Rounds.{places_facts, still_closed}
use Rattle.view_solver.proofs.solving.solve_rounds.Goals as goal

pub loop-changed-init : goal.loop-changed-init
loop-changed-init g c = record { below = c.requires.below; facts = c.requires.facts; led = c.requires.led; masks = refl; inside = λ e. absurd (cc); done = λ e. absurd (cc) }

pub settle-requires-clause-facts : goal.settle-requires-clause-facts
settle-requires-clause-facts g c = facts_kept _ _ _ _ c.approach_rounds.ensures.keeps.size c.loop-changed.invariant.facts

pub returns-in_err-approach_rounds-clause-places : goal.returns-in_err-approach_rounds-clause-places
returns-in_err-approach_rounds-clause-places g c = (facts_kept _ _ _ _ c.approach_rounds.ensures.keeps.size c.loop-changed.invariant.facts).places

pub returns-in_err-approach_rounds-clause-rows : goal.returns-in_err-approach_rounds-clause-rows
returns-in_err-approach_rounds-clause-rows g c = c.approach_rounds.ensures.keeps.masks ∙ c.loop-changed.invariant.masks

pub returns-in_err-settle-clause-places : goal.returns-in_err-settle-clause-places
returns-in_err-settle-clause-places g c = c.settle.ensures.places

pub returns-in_err-settle-clause-rows : goal.returns-in_err-settle-clause-rows
returns-in_err-settle-clause-rows g c = c.settle.ensures.rows ∙ c.approach_rounds.ensures.keeps.masks ∙ c.loop-changed.invariant.masks

pub move_all-changed-requires : goal.move_all-changed-requires
move_all-changed-requires g c = places_facts _ _ _ _ c.loop-changed.invariant.facts c.settle.ensures.places

pub loop-changed-preserved : goal.loop-changed-preserved
loop-changed-preserved g c =
    let near = c.approach_rounds.ensures.keeps in
    let is = near.masks ∙ c.loop-changed.invariant.masks in
    let first = rw c.loop-changed.invariant.masks at near in
    let sound = rw is at c.settle.ensures.sound in
    let least = rw is at c.in_ok-settle.ensures.least in
    let up = c.move_all-changed.ensures _ in
    record {
      below = up.below _ (whole_below _ _ _ _ _ _ (first.below _ c.loop-changed.invariant.below) sound);
      facts = facts_kept _ _ _ _ up.size (places_facts _ _ _ _ c.loop-changed.invariant.facts c.settle.ensures.places);
      led = are_led_kept _ _ _ _ _ _ up.kept c.settle.ensures.led;
      masks = c.settle.ensures.rows ∙ is;
      inside = λ off. still_closed _ _ _ (up.same off) (least_closed _ _ _ least);
      done = up.done;
    }

pub loop-changed-smaller : goal.loop-changed-smaller
loop-changed-smaller g c = rw c.loop-changed-test.true (round_falls _ _ _ _ _ _ _ _ (let near = c.approach_rounds.ensures.keeps.room in let far = c.settle.ensures.room in omega arith) (c.move_all-changed.ensures no_masks))

pub returns-clause-least : goal.returns-clause-least
returns-clause-least g c = whole_least _ _ _ _ c.loop-changed.invariant.facts (c.loop-changed.invariant.inside c.loop-changed-test.false) (c.loop-changed.invariant.done c.loop-changed-test.false) c.loop-changed.invariant.below

pub returns-clause-places : goal.returns-clause-places
returns-clause-places g c = c.loop-changed.invariant.facts.places

pub returns-clause-rows : goal.returns-clause-rows
returns-clause-rows g c = c.loop-changed.invariant.masks
