use Rattle.std.proofs.Common.{◌≡◌, drop}
use Rattle.std.specs.List.{list_any}
use Rattle.ns_base.specs.declared.rows.MethodNo.{MethodNo}
use Rattle.flow_model.specs.Breaks.{is_native}
use Rattle.scope_check.proofs.survey.Survey.calls_native.Given as goal

abbrev pub invariant-loop-k : goal.invariant-loop-k
invariant-loop-k l = list_any (λ (n : MethodNo). is_native l.self.case.app n.0) l.callees ≡ list_any (λ (n : MethodNo). is_native l.self.case.app n.0) (drop l.k l.callees)
