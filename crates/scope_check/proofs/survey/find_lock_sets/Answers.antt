use Rattle.flow_model.specs.Breaks.{Candidate}
use Rattle.scope_check.proofs.SurveyLaws.{lock_sets_by}
use Rattle.scope_check.proofs.survey.find_lock_sets.Goals as goal

pub returns : goal.returns
returns c =
    let seen : Candidate = record { app = c.case.inside.app; graph = c.case.inside.graph; list = c.case.inside.list; tags = c.case.inside.tags } in
    lock_sets_by c.args.case.now seen c.args.reached.now c.static_locks.result c.find_seen-seen.result.accessed c.find_seen-seen.result.made c.faulty_locks.result c.case.view_is c.static_locks.ensures c.find_seen-seen.ensures.accessed c.find_seen-seen.ensures.made c.faulty_locks.ensures
