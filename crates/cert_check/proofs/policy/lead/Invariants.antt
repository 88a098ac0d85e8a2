use Rattle.solution.specs.Words.{IsMask, Below}
use Rattle.cert_check.specs.Ends.{LeadsFrom}
use Rattle.cert_check.proofs.policy.lead.Given as goal

abbrev pub invariant-loop-status : goal.invariant-loop-status
invariant-loop-status l = IsMask (Below (LeadsFrom l.task l.component.0 l.edge l.seen) l.status) l.mask
