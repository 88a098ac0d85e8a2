use Rattle.std.proofs.Common.{◌≡◌, drop, None}
use Rattle.method_graph.specs.Tries.{bad_target}
use Rattle.method_graph.proofs.tries.find_bad_target.Given as goal

abbrev pub invariant-loop-handler : goal.invariant-loop-handler
invariant-loop-handler l = bad_target l.sweep.rows l.low (drop l.handler-index l.handlers) ≡ bad_target l.sweep.rows None l.handlers
