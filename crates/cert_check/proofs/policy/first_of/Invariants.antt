use Rattle.cert_check.proofs.Unmet.{NoneOf}
use Rattle.cert_check.proofs.policy.first_of.Given as goal

abbrev pub invariant-loop-component : goal.invariant-loop-component
invariant-loop-component l = NoneOf l.task l.component
