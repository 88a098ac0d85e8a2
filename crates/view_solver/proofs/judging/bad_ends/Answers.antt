use Rattle.std.proofs.Common.{sym}
use Rattle.view_solver.proofs.Judged.{bad_none, bad_some}
use Rattle.view_solver.proofs.judging.bad_ends.Goals as goal

pub returns-then-not-answers_for : goal.returns-then-not-answers_for
returns-then-not-answers_for c = bad_none _ _ _ _ _ _ (λ s v. v.answers) (sym c.if-not-answers_for.ensures)

pub returns-then-not-has_status : goal.returns-then-not-has_status
returns-then-not-has_status c = bad_none _ _ _ _ _ _ (λ s v. v.exit) (rw c.exits.ensures at (sym c.if-not-has_status.ensures))

pub returns : goal.returns
returns c = bad_some _ _ _ _ _ _ _ c.requires.facts (sym c.if-not-answers_for.ensures) (rw c.exits.ensures at (sym c.if-not-has_status.ensures)) c.ends.ensures c.held_test.ensures.nonzero
