use Rattle.std.proofs.Common.{refl, ◌∙◌, arith}
use Rattle.solver.proofs.Turns.{facts_kept, room_le, round_falls}
use Rattle.solver.proofs.Visits.{led_after}
use Rattle.solver.proofs.Closed.{given_below, least_at}
use Rattle.solver.proofs.sweep.sweep_all.Goals as goal

pub loop-changed-init : goal.loop-changed-init
loop-changed-init g c = record {
  below = given_below _ _ _;
  kept = λ f h. h;
  facts = c.requires.facts;
  room = omega arith;
  led = c.requires.led;
  masks = refl;
  done = λ off. absurd (cc);
}

pub rise-changed-requires-clause-facts : goal.rise-changed-requires-clause-facts
rise-changed-requires-clause-facts g c = facts_kept _ _ _ _ c.in_ok-work_off.ensures.keeps.size c.loop-changed.invariant.facts

pub loop-changed-preserved : goal.loop-changed-preserved
loop-changed-preserved g c =
    let is = c.loop-changed.invariant.masks in
    let near = c.work_off.ensures.keeps in
    let down = rw is at near in
    let up = rw (near.masks ∙ is) at c.rise-changed.ensures in
    record {
      below = up.below _ (down.below _ c.loop-changed.invariant.below);
      kept = λ f h. up.kept f (down.kept f (c.loop-changed.invariant.kept f h));
      facts = facts_kept _ _ _ _ up.size (facts_kept _ _ _ _ down.size c.loop-changed.invariant.facts);
      room = omega (arith, c.loop-changed.invariant.room, down.room, room_le _ _ _ _ _ _ _ up);
      led = led_after _ _ _ _ _ _ _ _ _ c.rise-changed.ensures c.work_off.ensures.led;
      masks = up.masks;
      done = up.done;
    }

pub loop-changed-smaller : goal.loop-changed-smaller
loop-changed-smaller g c = rw c.loop-changed-test.true (round_falls _ _ _ _ _ _ _ _ c.work_off.ensures.keeps.room c.rise-changed.ensures)

pub returns-clause-least : goal.returns-clause-least
returns-clause-least g c = least_at _ _ _ _ c.loop-changed.invariant.facts (c.loop-changed.invariant.done c.loop-changed-test.false) _ c.loop-changed.invariant.kept c.loop-changed.invariant.below

pub returns-clause-sound : goal.returns-clause-sound
returns-clause-sound g c = c.loop-changed.invariant.below.by

pub returns-clause-places : goal.returns-clause-places
returns-clause-places g c = c.loop-changed.invariant.facts.places
