use Rattle.std.proofs.Common.{◌≡◌, drop}
use Rattle.class_graph.specs.Walks.{met_all, with_kinds}
use Rattle.class_graph.proofs.above.meet_all.Given as goal

abbrev pub invariant-loop-i : goal.invariant-loop-i
invariant-loop-i l = record {
  kept : l.walk ≡ with_kinds l.fn.walk l.walk.kinds;
  rest : met_all l.walk.kinds (drop l.i l.kinds) ≡ met_all l.fn.walk.kinds l.kinds;
}
