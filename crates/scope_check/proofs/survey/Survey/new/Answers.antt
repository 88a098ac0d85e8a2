use Rattle.scope_check.proofs.SurveyLaws.{survey_by}
use Rattle.scope_check.proofs.survey.Survey.new.Goals as goal

pub invariant_of-result : goal.invariant_of-result
invariant_of-result c =
    survey_by c.args.case c.in_ok-callbacks.callbacks c.in_ok-tables.tables c.find_lock_sets-locks.result c.deref-2.result.now c.deref-2.ensures.value c.told.ensures c.in_ok-callbacks.ensures c.in_ok-tables.ensures c.find_lock_sets-locks.ensures
