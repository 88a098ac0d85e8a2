use Rattle.cert_check.proofs.Breaches.{NoneRule}
use Rattle.cert_check.proofs.checking.first_rule.Given as goal

abbrev pub invariant-loop-number : goal.invariant-loop-number
invariant-loop-number l = NoneRule l.task l.number
