use Rattle.cert_check.specs.EdgeTests.{IsOutBetween}
use Rattle.cert_check.proofs.Searches.{NoneBelow}
use Rattle.cert_check.proofs.places.first_number.Given as goal

abbrev pub invariant-loop-number : goal.invariant-loop-number
invariant-loop-number l = NoneBelow (IsOutBetween l.rule l.task l.component.0 l.state) l.number
