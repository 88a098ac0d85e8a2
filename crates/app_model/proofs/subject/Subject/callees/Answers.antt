use Rattle.std.proofs.Common.{◌≡◌, List, subst, rules}
use Rattle.std.specs.List.{All}
use Rattle.ns_base.specs.declared.rows.MethodNo.{MethodNo}
use Rattle.app_model.specs.Subject.{IsSubject, IsEnterable, callees_at}
use Rattle.app_model.proofs.Callees.{callees_enterable}
use Rattle.app_model.proofs.subject.Subject.callees.Goals as goal

pub returns-clause-entered : goal.returns-clause-entered
returns-clause-entered c =
    let sound : IsSubject c.args.self.now = rw (← c.self.view_is) c.self.invariant in
    let same : callees_at c.args.self.now c.args.method.0 c.args.index ≡ c.callees.result.now = search rules in
    subst (λ (ms : List MethodNo). All (λ (n : MethodNo). IsEnterable c.args.self.now n.0) ms) same (callees_enterable _ _ _ sound c.requires)
