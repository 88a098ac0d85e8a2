use Rattle.std.proofs.Common.{◌≡◌, ◌≤◌, ◌<◌, true, false, length}
use Rattle.app_link.specs.Cycles.{AreAncestors, AreDone, unmarked}
use Rattle.app_link.proofs.cycles.visit_all.Given as goal

abbrev pub invariant-loop-c : goal.invariant-loop-c
invariant-loop-c l = record {
  len : length l.marks.items ≡ length l.initial.marks.items;
  ancestors : AreAncestors l.classes l.start l.initial.marks.items → AreAncestors l.classes l.start l.marks.items;
  done : l.changed ≡ false → AreDone l.classes l.start l.marks.items l.c;
  fewer : l.changed ≡ true → unmarked l.marks.items < unmarked l.initial.marks.items;
  least : unmarked l.marks.items ≤ unmarked l.initial.marks.items;
}
