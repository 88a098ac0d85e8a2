use Rattle.cert_check.proofs.Unmet.{NoneAt}
use Rattle.cert_check.proofs.policy.first_callback.Given as goal

abbrev pub invariant-loop-callback : goal.invariant-loop-callback
invariant-loop-callback l = NoneAt l.task l.component.0 l.callback
