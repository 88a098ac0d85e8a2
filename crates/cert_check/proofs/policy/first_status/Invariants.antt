use Rattle.cert_check.specs.Ends.{Violates}
use Rattle.cert_check.proofs.Searches.{NoneBelow}
use Rattle.cert_check.proofs.policy.first_status.Given as goal

abbrev pub invariant-loop-status : goal.invariant-loop-status
invariant-loop-status l = NoneBelow (Violates l.fn.task l.fn.component.0 l.fn.callback) l.status
