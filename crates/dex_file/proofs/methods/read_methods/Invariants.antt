use Rattle.std.proofs.Common.{◌≡◌, drop}
use Rattle.method_graph.specs.Operands.{AreSums}
use Rattle.dex_file.specs.Exact.{reached}
use Rattle.dex_file.specs.Reading.{with_method, methods_at}
use Rattle.dex_file.proofs.methods.read_methods.Given as goal

abbrev pub invariant-loop-k : goal.invariant-loop-k
invariant-loop-k l = record {
  rest : reached (with_method l.bytes) l.read (drop l.k l.members) ≡ methods_at l.bytes l.fn.sums l.members;
  params : AreSums l.bytes l.params;
}
