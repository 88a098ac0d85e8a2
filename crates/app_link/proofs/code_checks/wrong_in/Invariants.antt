use Rattle.std.proofs.Common.{◌≡◌, drop}
use Rattle.app_link.specs.LinkFaults.{wrong_in}
use Rattle.app_link.proofs.code_checks.wrong_in.Given as goal

abbrev pub invariant-loop-method : goal.invariant-loop-method
invariant-loop-method l = wrong_in l.wrong (drop l.method-index l.methods) ≡ wrong_in l.wrong l.methods
