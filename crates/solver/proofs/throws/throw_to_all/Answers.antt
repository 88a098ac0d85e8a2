use Rattle.std.proofs.Common.{sym, arith}
use Rattle.solver.proofs.Places.{handler_none, handler_last}
use Rattle.solver.proofs.Turns.{sure_start, sure_more, sure_every, place_kept, size_same, size_more}
use Rattle.solver.proofs.Visits.{thrown_kept}
use Rattle.solver.proofs.throws.throw_to_all.Goals as goal

pub throw_to-changed-requires-clause-place : goal.throw_to-changed-requires-clause-place
throw_to-changed-requires-clause-place c = place_kept _ _ _ _ _ _ c.loop-number.invariant.size c.requires

pub throw_to-changed-requires-clause-way : goal.throw_to-changed-requires-clause-way
throw_to-changed-requires-clause-way c = sym c.in-Some.ensures

pub loop-number-init : goal.loop-number-init
loop-number-init c = record { turn = λ masks can. sure_start _ _ _ _; size = size_same _ }

pub loop-number-preserved : goal.loop-number-preserved
loop-number-preserved c = record {
  turn = λ masks can.
      (let t = c.loop-number.invariant.turn masks can in
      sure_more _ _ _ _ _ _ _ _ _ _ _ t (c.throw_to-changed.ensures.turn masks (thrown_kept _ _ _ _ _ _ _ _ t.turn.kept can)));
  size = size_more _ _ _ c.loop-number.invariant.size c.throw_to-changed.ensures.size;
}

pub returns-in_default : goal.returns-in_default
returns-in_default c = record {
  turn = λ masks can. sure_every _ _ _ _ _ _ _ _ (λ k le g t e u h has is. absurd (handler_none c.args.task.now.subject.now _ _ k h is _ (sym c.in_default.ensures) le)) (c.loop-number.invariant.turn masks can);
  size = c.loop-number.invariant.size;
}

pub returns : goal.returns
returns c = record {
  turn = λ masks can. sure_every _ _ _ _ _ _ _ _ (λ k le g t e u h has is. absurd (handler_last c.args.task.now.subject.now _ _ k h is c.requires.facts.sound (omega (arith, c.loop-number-test.false, le)))) (c.loop-number.invariant.turn masks can);
  size = c.loop-number.invariant.size;
}
