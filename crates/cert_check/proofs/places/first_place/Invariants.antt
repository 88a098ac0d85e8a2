use Rattle.cert_check.proofs.FirstPlaces.{NoneFrom}
use Rattle.cert_check.proofs.places.first_place.Given as goal

abbrev pub invariant-loop-a : goal.invariant-loop-a
invariant-loop-a l = NoneFrom l.rule l.task l.a
