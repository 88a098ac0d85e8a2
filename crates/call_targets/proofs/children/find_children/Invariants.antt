use Rattle.std.proofs.Common.{length, take}
use Rattle.call_targets.specs.Below.{AreChildren}
use Rattle.call_targets.proofs.children.find_children.Given as goal

abbrev pub invariant-loop-c : goal.invariant-loop-c
invariant-loop-c l = AreChildren (take l.c l.app.classes) (length l.app.types) l.children
