use Rattle.std.proofs.Common.{◌≡◌, drop}
use Rattle.app_link.specs.LinkFaults.{wrong_in_classes}
use Rattle.app_link.proofs.code_checks.wrong_in_classes.Given as goal

abbrev pub invariant-loop-class : goal.invariant-loop-class
invariant-loop-class l = wrong_in_classes l.wrong (drop l.class-index l.classes) ≡ wrong_in_classes l.wrong l.classes
