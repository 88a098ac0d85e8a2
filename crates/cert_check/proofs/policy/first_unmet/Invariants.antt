use Rattle.cert_check.specs.Ends.{IsFirstUnmet}
use Rattle.cert_check.proofs.policy.first_unmet.Given as goal

abbrev pub invariant-loop-lock : goal.invariant-loop-lock
invariant-loop-lock l = IsFirstUnmet l.subject l.parts l.lock l.first
