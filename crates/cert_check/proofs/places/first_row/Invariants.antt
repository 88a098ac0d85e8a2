use Rattle.cert_check.proofs.FirstPlaces.{NoneBefore}
use Rattle.cert_check.proofs.places.first_row.Given as goal

abbrev pub invariant-loop-k : goal.invariant-loop-k
invariant-loop-k l = NoneBefore l.rule l.task l.k
