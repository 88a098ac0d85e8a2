use Rattle.std.proofs.Common.{◌≡◌, ◌++◌, drop}
use Rattle.method_graph.specs.Tries.{indices_of, up_to_all}
use Rattle.method_graph.proofs.tries.find_handlers.Given as goal

abbrev pub invariant-loop-handler : goal.invariant-loop-handler
invariant-loop-handler l =
    l.indices ++ indices_of l.sweep.rows (up_to_all l.bytes (drop l.handler-index l.handlers)) ≡ indices_of l.sweep.rows (up_to_all l.bytes l.handlers)
