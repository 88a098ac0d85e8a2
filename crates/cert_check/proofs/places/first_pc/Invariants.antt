use Rattle.cert_check.specs.Tests.{IsOut}
use Rattle.cert_check.proofs.Instances.{spot}
use Rattle.cert_check.proofs.Searches.{NoneBelow}
use Rattle.cert_check.proofs.places.first_pc.Given as goal

abbrev pub invariant-loop-index : goal.invariant-loop-index
invariant-loop-index l = NoneBelow (λ i. IsOut l.rule (spot l.entered.case l.entered.method l.entered.status i)) l.index
