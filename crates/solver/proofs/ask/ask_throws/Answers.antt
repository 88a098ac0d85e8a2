use Rattle.std.proofs.Common.{refl, ◌∙◌, arith}
use Rattle.solution.proofs.Bits.{rows_first, rows_more, rows_last}
use Rattle.solver.proofs.ask.ask_throws.Goals as goal

pub loop-status-init : goal.loop-status-init
loop-status-init g c = record { masks = rows_first _ _ (λ k t p. c.first_of-status.ensures k p.0); same = refl }

pub loop-status-preserved : goal.loop-status-preserved
loop-status-preserved g c = record {
  masks = rows_more _ _ _ _ _ c.loop-status.invariant.masks (rw c.loop-status.invariant.same at c.ask_throw-mask.ensures.masks) c.shifted-word.ensures;
  same = c.ask_throw-mask.ensures.same ∙ c.loop-status.invariant.same;
}

pub returns-clause-masks : goal.returns-clause-masks
returns-clause-masks g c = rows_last _ _ _ (λ k t p. let less = c.end_of-status-end.ensures.above k p.0 in omega (arith, less, c.loop-status-test.false)) c.loop-status.invariant.masks

pub returns-clause-same : goal.returns-clause-same
returns-clause-same g c = c.loop-status.invariant.same
