use Rattle.cert_check.specs.Tests.{SeenOut}
use Rattle.cert_check.proofs.Searches.{NoneBelow}
use Rattle.cert_check.proofs.inside.is_out.Given as goal

abbrev pub invariant-loop-status : goal.invariant-loop-status
invariant-loop-status l = NoneBelow (SeenOut l.rule l.site) l.status
