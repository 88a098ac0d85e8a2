use Rattle.std.proofs.Common.{◌<◌, List, length, subst, sym}
use Rattle.std.specs.List.{All}
use Rattle.ns_base.specs.declared.rows.MethodNo.{MethodNo}
use Rattle.flow_model.specs.Breaks.{Candidate}
use Rattle.scope_facts.proofs.Entries.{entries_within}
use Rattle.scope_check.proofs.survey.reach_of.Goals as goal

pub reach-requires-clause-from : goal.reach-requires-clause-from
reach-requires-clause-from c =
    subst (λ (x : Candidate). All (λ (m : MethodNo). m.0 < length x.app.methods) c.args.entries.now) (sym c.case.view_is)
    (subst (λ (entries : List MethodNo). All (λ (m : MethodNo). m.0 < length c.args.case.now.app.methods) entries) (sym c.requires) (entries_within c.args.case.now.app c.args.case.now.list c.told.ensures.list))
