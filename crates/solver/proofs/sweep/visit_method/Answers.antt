use Rattle.std.proofs.Common.{sym, ◌∙◌, arith}
use Rattle.std.proofs.lemmas.Bool.{false≢true}
use Rattle.solver.proofs.Turns.{turn_none, turn_start, turn_more, turn_end, turn_as, facts_kept}
use Rattle.solver.proofs.Visits.{led_after}
use Rattle.solver.proofs.sweep.visit_method.Goals as goal

pub returns-then-not-reaches : goal.returns-then-not-reaches
returns-then-not-reaches g c = turn_none _ _ _ _ (λ yes. absurd (false≢true (c.if-not-reaches.ensures ∙ yes)))

pub visit-changed-requires-clause-place : goal.visit-changed-requires-clause-place
visit-changed-requires-clause-place g c = record {
  facts = facts_kept _ _ _ _ c.loop-index.invariant.size c.requires.facts;
  place = record { lock = c.requires.facts.lock; method = c.requires.method; reached = sym c.if-not-reaches.ensures; index = omega (arith, c.loop-index-test.true, c.code_len-index-end.ensures) };
}

pub visit-changed-requires-clause-led : goal.visit-changed-requires-clause-led
visit-changed-requires-clause-led g c = led_after _ _ _ _ _ _ _ _ _ c.loop-index.invariant c.requires.led

pub loop-index-init : goal.loop-index-init
loop-index-init g c = turn_start _ _ _ _

pub loop-index-preserved : goal.loop-index-preserved
loop-index-preserved g c = turn_more _ _ _ _ _ _ _ _ _ _ _ c.loop-index.invariant c.visit-changed.ensures

pub returns : goal.returns
returns g c = turn_as _ _ _ _ _ _ _ _ (λ same d yes. d) (turn_end _ _ _ _ _ _ _ _ _ (omega (arith, c.loop-index-test.false, c.code_len-index-end.ensures)) c.loop-index.invariant)
