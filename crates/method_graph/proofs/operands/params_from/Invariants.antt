use Rattle.std.proofs.Common.{◌≡◌, ◌*◌, ◌≤◌}
use Rattle.dex_tables.specs.Sound.{sum_below}
use Rattle.method_graph.specs.Operands.{param_words}
use Rattle.method_graph.proofs.operands.params_from.Given as goal

abbrev pub invariant-loop-k : goal.invariant-loop-k
invariant-loop-k l = (l.words ≡ sum_below (param_words l.bytes l.proto) l.k) × (l.words ≤ 2 * l.k)
