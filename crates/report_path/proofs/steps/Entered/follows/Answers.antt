use Rattle.std.proofs.Common.{ap, sym, ◌∙◌}
use Rattle.std.specs.Prelude.{slice_get}
use Rattle.std.proofs.lemmas.Option.{slice_get-get_or}
use Rattle.report_path.specs.Paths.{Entry}
use Rattle.report_path.proofs.Instances.{test_itself, test_call}
use Rattle.report_path.proofs.steps.Entered.follows.Goals as goal

pub returns-in-None : goal.returns-in-None
returns-in-None c = test_itself _ _ _ _ _ _ _ c.in-None.is c.leads_itself.ensures

pub returns-else-number-self : goal.returns-else-number-self
returns-else-number-self c = test_call _ _ _ _ _ _ _ _ _ _ c.in-Some.is (sym (slice_get-get_or _ _ _ c.if-number-self.false) ∙ ap (λ (t : Entry). slice_get t.before c.in-Some.number) c.self.view_is) c.end_of.ensures c.leads_by.ensures
