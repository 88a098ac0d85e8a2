use Rattle.std.proofs.Common.{[], ◌∷◌, sym, ap, ◌∙◌}
use Rattle.report_path.specs.Tests.{end_at}
use Rattle.report_path.proofs.Instances.{itself_test, call_test}
use Rattle.report_path.proofs.Tests.{has_test}
use Rattle.fact_log.specs.Logs.{end_in}
use Rattle.fact_log.proofs.lines.follows.Goals as goal

pub returns-in_default : goal.returns-in_default
returns-in_default c = has_test _ _ [] (ap (end_in c.args.lines.now) (sym c.in_default.is)) (itself_test _ _ _ _ _ c.leads_near.ensures)

pub returns-in-Some-end_number : goal.returns-in-Some-end_number
returns-in-Some-end_number c = has_test _ _ (end_at c.in-Some-end_number.end ∷ []) (c.in-Some-end_number.ensures ∙ ap (end_in c.args.lines.now) (sym c.in-Some.is)) (call_test _ _ _ _ _ _ c.leads_by.ensures)
