use Rattle.std.proofs.Common.{◌≡◌, drop}
use Rattle.method_graph.specs.Exact.{behind}
use Rattle.method_graph.specs.Flow.{indices_at}
use Rattle.method_graph.proofs.flow.put_all.Given as goal

abbrev pub invariant-loop-k : goal.invariant-loop-k
invariant-loop-k l =
    behind l.successors (indices_at l.sweep.rows l.pc (drop l.k l.offsets)) ≡ behind l.initial.successors (indices_at l.sweep.rows l.pc l.offsets)
