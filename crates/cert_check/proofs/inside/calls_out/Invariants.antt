use Rattle.cert_check.proofs.Leading.{CallsNumber}
use Rattle.cert_check.proofs.Searches.{NoneBelow}
use Rattle.cert_check.proofs.inside.calls_out.Given as goal

abbrev pub invariant-loop-k : goal.invariant-loop-k
invariant-loop-k l = NoneBelow (CallsNumber l.rule l.site l.status l.callees) l.k
