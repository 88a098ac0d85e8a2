use Rattle.app_model.specs.Masks.{in_mask}
use Rattle.cert_check.specs.Tests.{HandlesTo}
use Rattle.cert_check.proofs.Searches.{NoneBelow}
use Rattle.cert_check.proofs.inside.handles_out.Given as goal

abbrev pub invariant-loop-number : goal.invariant-loop-number
invariant-loop-number l = NoneBelow (HandlesTo l.site (in_mask l.thrown)) l.number
