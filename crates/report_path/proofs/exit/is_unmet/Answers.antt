use Rattle.std.proofs.Common.{sym, ◌∙◌, arith}
use Rattle.report_path.proofs.Exits.{exit_within, unmet_test}
use Rattle.report_path.proofs.exit.is_unmet.Goals as goal

pub answers_for-requires-clause-component : goal.answers_for-requires-clause-component
answers_for-requires-clause-component c = exit_within _ _ _ (rw c.exits.ensures at (sym c.has_bit.ensures ∙ c.if-not-has_bit.false))

pub returns : goal.returns
returns c =
    unmet_test _ _ _ (omega (arith, c.if-report-lock_count.false, c.lock_count.ensures.count)) (rw c.exits.ensures at (sym c.has_bit.ensures ∙ c.if-not-has_bit.false))
    (sym c.has_bit-2.ensures ∙ c.if-not-has_bit-2.false) c.answers_for.ensures
