use Rattle.std.proofs.Common.{◌≡◌, ◌<◌, ◌≤◌, ℕ, length, drop, get_or}
use Rattle.method_graph.specs.declared.sweep.Row.{Row}
use Rattle.method_graph.specs.Exact.{behind}
use Rattle.method_graph.specs.Graph.{places_of}
use Rattle.method_graph.specs.Operands.{AreSums}
use Rattle.method_graph.specs.Tries.{IsPast}
use Rattle.method_graph.proofs.graph.make_places.Given as goal

abbrev pub invariant-loop-k : goal.invariant-loop-k
invariant-loop-k l =
    (behind l.places.items (places_of l.bytes l.code l.sweep.rows (drop l.k l.rows)) ≡ places_of l.bytes l.code l.sweep.rows l.rows)
    × AreSums l.bytes l.sums
    × ((k : ℕ) (d : Row) → l.k ≤ k → k < length l.rows → IsPast l.code.tries l.at (get_or l.rows k d).pc)
