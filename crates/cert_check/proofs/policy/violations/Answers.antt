use Rattle.std.proofs.Common.{sym, ◌∙◌}
use Rattle.cert_check.proofs.Unmet.{violates_none, violates_some}
use Rattle.cert_check.proofs.policy.violations.Goals as goal

pub returns-then-not-answers_for : goal.returns-then-not-answers_for
returns-then-not-answers_for c = violates_none c.args.task.now _ _ _ (λ s v. v.answers) (rw (c.subject.ensures, c.lock.ensures) at (sym c.answers_for.ensures ∙ c.if-not-answers_for.true))

pub returns-then-not-has_status : goal.returns-then-not-has_status
returns-then-not-has_status c = violates_none c.args.task.now _ _ _ (λ s v. v.exit) (rw c.exits.ensures at (sym c.has_status.ensures ∙ c.if-not-has_status.true))

pub returns : goal.returns
returns c =
    violates_some c.args.task.now _ _ _ _ c.told.ensures (rw (c.subject.ensures, c.lock.ensures) at (sym c.answers_for.ensures ∙ c.if-not-answers_for.false))
    (rw c.exits.ensures at (sym c.has_status.ensures ∙ c.if-not-has_status.false)) c.ends.ensures c.held_test.ensures.nonzero
