use Rattle.std.proofs.Common.{◌≡◌, [], length, drop}
use Rattle.app_link.specs.LinkFaults.{repeat_from, class_names}
use Rattle.app_link.proofs.class_checks.find_repeat.Given as goal

abbrev pub invariant-loop-c : goal.invariant-loop-c
invariant-loop-c l = (repeat_from l.before.keys (class_names (drop l.c l.classes)) ≡ repeat_from [] (class_names l.classes)) × (length l.before.keys ≡ l.c)
