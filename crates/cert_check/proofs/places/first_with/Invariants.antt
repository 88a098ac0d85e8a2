use Rattle.cert_check.proofs.FirstPlaces.{NoneWith}
use Rattle.cert_check.proofs.places.first_with.Given as goal

abbrev pub invariant-loop-b : goal.invariant-loop-b
invariant-loop-b l = NoneWith l.rule l.task l.a l.b
