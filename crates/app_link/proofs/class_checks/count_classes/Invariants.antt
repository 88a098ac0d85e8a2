use Rattle.std.proofs.Common.{◌≡◌, take}
use Rattle.app_link.specs.LinkFaults.{class_counts}
use Rattle.app_link.proofs.class_checks.count_classes.Given as goal

abbrev pub invariant-loop-n : goal.invariant-loop-n
invariant-loop-n l = l.counts.items ≡ class_counts (take l.n l.files)
