use Rattle.std.proofs.Common.{◌≡◌, length}
use Rattle.app_link.specs.Cycles.{AreAncestors}
use Rattle.app_link.proofs.cycles.climb.Given as goal

abbrev pub invariant-loop : goal.invariant-loop
invariant-loop l =
    (length l.marks.items ≡ length l.initial.marks.items)
    × (AreAncestors l.classes l.start l.initial.marks.items → AreAncestors l.classes l.start l.marks.items)
