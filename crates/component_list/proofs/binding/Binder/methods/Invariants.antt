use Rattle.std.proofs.Common.{◌≡◌}
use Rattle.component_list.proofs.BoundLaws.{methods_below}
use Rattle.component_list.proofs.binding.Binder.methods.Given as goal

abbrev pub invariant-loop-k : goal.invariant-loop-k
invariant-loop-k l = l.methods.items ≡ methods_below l.self l.class.0 l.fn.kind l.k
