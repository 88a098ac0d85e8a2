use Rattle.std.proofs.Common.{◌≡◌, ◌+◌, length, map, take}
use Rattle.class_graph.specs.Built.{above_of}
use Rattle.class_graph.proofs.above.above_rows.Given as goal

abbrev pub invariant-loop-c : goal.invariant-loop-c
invariant-loop-c l = record {
  types : l.walk.types ≡ length l.app.types;
  turn : l.walk.turn ≡ l.c + 1;
  rows : l.rows.items ≡ map (above_of l.app) (take l.c l.app.classes);
}
