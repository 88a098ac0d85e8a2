use Rattle.std.proofs.Common.{ap, ◌∙◌}
use Rattle.flow_model.specs.Breaks.{Candidate}
use Rattle.scope_check.specs.Surveys.{SurveyParts}
use Rattle.scope_check.proofs.SubjectLaws.{subject_by}
use Rattle.scope_check.proofs.scoping.subject_of.Goals as goal

pub invariant_of-result : goal.invariant_of-result
invariant_of-result c =
    let case : Candidate = record { app = c.case.inside.app; graph = c.case.inside.graph; list = c.case.inside.list; tags = c.case.inside.tags } in
    (subject_by c.args.survey case c.survey.inside.callbacks.reached.items c.in_ok-answers.answers.items c.in_ok-owners.owners.items (c.case.view_is ∙ ap (λ (s : SurveyParts). s.case) c.survey.view_is) (ap (λ (s : SurveyParts). s.reached) c.survey.view_is)
    c.told.ensures c.requires.unbroken c.in_ok-answers.ensures c.in_ok-owners.ensures).0

pub returns-clause-scope : goal.returns-clause-scope
returns-clause-scope c =
    let case : Candidate = record { app = c.case.inside.app; graph = c.case.inside.graph; list = c.case.inside.list; tags = c.case.inside.tags } in
    (subject_by c.args.survey case c.survey.inside.callbacks.reached.items c.in_ok-answers.answers.items c.in_ok-owners.owners.items (c.case.view_is ∙ ap (λ (s : SurveyParts). s.case) c.survey.view_is) (ap (λ (s : SurveyParts). s.reached) c.survey.view_is)
    c.told.ensures c.requires.unbroken c.in_ok-answers.ensures c.in_ok-owners.ensures).1
