use Rattle.std.proofs.Common.{◌≡◌, drop}
use Rattle.class_graph.specs.Walks.{met_all}
use Rattle.call_targets.specs.Below.{walk_of}
use Rattle.call_targets.proofs.walk.Walk.meet_all.Given as goal

abbrev pub invariant-loop-i : goal.invariant-loop-i
invariant-loop-i l = record {
  kept : l.self ≡ walk_of l.initial.self.types l.self.kinds;
  rest : met_all l.self.kinds (drop l.i l.kinds) ≡ met_all l.initial.self.kinds l.kinds;
}
