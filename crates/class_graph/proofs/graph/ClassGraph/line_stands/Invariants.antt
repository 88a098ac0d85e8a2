use Rattle.std.specs.List.{list_any}
use Rattle.class_graph.specs.Graph.{stands_by}
use Rattle.class_graph.proofs.Lines.{SearchesOn}
use Rattle.class_graph.proofs.graph.ClassGraph.line_stands.Given as goal

abbrev pub invariant-loop-step : goal.invariant-loop-step
invariant-loop-step l = SearchesOn (list_any (stands_by l.self l.kind.0)) l.self l.fn.from l.class l._step
