use Rattle.solution.specs.Words.{IsMask, Below}
use Rattle.cert_check.specs.Ends.{EndsBy}
use Rattle.cert_check.proofs.policy.ends.Given as goal

abbrev pub invariant-loop-number : goal.invariant-loop-number
invariant-loop-number l = IsMask (Below (EndsBy l.task l.component.0 l.callback) l.number) l.mask
