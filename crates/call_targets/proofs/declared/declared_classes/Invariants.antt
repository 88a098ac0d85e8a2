use Rattle.call_targets.specs.Signatures.{AreDeclared}
use Rattle.call_targets.proofs.declared.declared_classes.Given as goal

abbrev pub invariant-loop-m : goal.invariant-loop-m
invariant-loop-m l = AreDeclared l.app l.m l.declared
