use Rattle.std.specs.List.{list_any}
use Rattle.class_graph.specs.Graph.{leads_by}
use Rattle.class_graph.proofs.Lines.{SearchesOn}
use Rattle.class_graph.proofs.graph.ClassGraph.line_leads.Given as goal

abbrev pub invariant-loop-step : goal.invariant-loop-step
invariant-loop-step l = SearchesOn (list_any (leads_by l.self)) l.self l.fn.from l.class l._step
