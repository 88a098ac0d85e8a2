-- What an application is refused for.
use Rattle.std.proofs.Common.{ℕ, ap, sym, subst, ◌∙◌}
use Rattle.ns_base.specs.declared.rows.MethodNo.{MethodNo}
use Rattle.flow_model.specs.Breaks.{Candidate, IsFirstBreak, class_name, method_name}
use Rattle.scope_check.specs.declared.found.Found.{Found}
use Rattle.scope_check.specs.declared.scoping.ScopeFault.{ScopeFault}
use Rattle.scope_check.specs.declared.scoping.ScopeFault.TheVariants as faults
use Rattle.scope_check.specs.Causes.{IsCause, IsFaultOf}

pub cause_of : (x : Candidate) (found : Found) (fault : ScopeFault) → IsFirstBreak x found.rule found.method.0 found.pc → IsFaultOf x.app found fault → IsCause x fault
cause_of x found faults.Memory first is = tt
cause_of x found (faults.Rule rule method pc class name) first is = record {
  first =
      subst (λ (r : ℕ). IsFirstBreak x r method.0 pc) (sym is.0)
      (subst (λ (m : MethodNo). IsFirstBreak x found.rule m.0 pc) (sym is.1) (subst (λ (p : ℕ). IsFirstBreak x found.rule found.method.0 p) (sym is.2) first));
  class_name = is.3 ∙ ap (λ (m : MethodNo). class_name x.app m.0) (sym is.1);
  method_name = is.4 ∙ ap (λ (m : MethodNo). method_name x.app m.0) (sym is.1);
}
