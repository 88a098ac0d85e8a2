use Rattle.cert_check.specs.Tests.{PassesTo}
use Rattle.cert_check.proofs.Searches.{NoneBelow}
use Rattle.cert_check.proofs.inside.passes_out.Given as goal

abbrev pub invariant-loop-number : goal.invariant-loop-number
invariant-loop-number l = NoneBelow (PassesTo l.site l.status) l.number
