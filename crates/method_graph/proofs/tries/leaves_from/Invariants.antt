use Rattle.std.proofs.Common.{◌≡◌, drop}
use Rattle.method_graph.specs.Tries.{may_leave}
use Rattle.method_graph.proofs.tries.leaves_from.Given as goal

abbrev pub invariant-loop-handler : goal.invariant-loop-handler
invariant-loop-handler l = may_leave l.bytes (drop l.handler-index l.handlers) ≡ may_leave l.bytes l.handlers
