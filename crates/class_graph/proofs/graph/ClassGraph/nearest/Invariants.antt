use Rattle.app_model.specs.Hierarchy.{nearest}
use Rattle.class_graph.specs.Graph.{member_in}
use Rattle.class_graph.proofs.Lines.{SearchesOn}
use Rattle.class_graph.proofs.graph.ClassGraph.nearest.Given as goal

abbrev pub invariant-loop-step : goal.invariant-loop-step
invariant-loop-step l = SearchesOn (nearest (member_in l.members l.name.0 l.second)) l.self l.fn.from l.class l._step
