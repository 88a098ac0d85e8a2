use Rattle.std.proofs.Common.{◌≡◌, take, map}
use Rattle.app_model.specs.Targets.{method_no}
use Rattle.call_targets.proofs.found.methods_of.Given as goal

abbrev pub invariant-loop-i : goal.invariant-loop-i
invariant-loop-i l = l.methods.items ≡ map method_no (take l.i l.numbers)
