use Rattle.std.proofs.Common.{◌≡◌, ◌-◌, length}
use Rattle.class_graph.specs.Walks.{met_from, with_kinds}
use Rattle.class_graph.proofs.above.meet_rest.Given as goal

abbrev pub invariant-loop-place : goal.invariant-loop-place
invariant-loop-place l = record {
  kept : l.walk ≡ with_kinds l.fn.walk l.walk.kinds;
  rest : met_from l.app.classes (length l.app.types - l.place) l.place l.walk.kinds ≡ met_from l.app.classes (length l.app.types) 0 l.fn.walk.kinds;
}
