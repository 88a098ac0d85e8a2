use Rattle.cert_check.specs.EdgeTests.{SeesOut}
use Rattle.cert_check.proofs.Searches.{NoneBelow}
use Rattle.cert_check.proofs.between.watches_out.Given as goal

abbrev pub invariant-loop-status : goal.invariant-loop-status
invariant-loop-status l = NoneBelow (SeesOut l.task l.fn.component.0 l.state l.fn.mover) l.status
