use Rattle.std.proofs.Common.{◌≡◌, drop}
use Rattle.class_graph.specs.Built.{has_unknown}
use Rattle.class_graph.proofs.kinds.has_unknown.Given as goal

abbrev pub invariant-loop-i : goal.invariant-loop-i
invariant-loop-i l = has_unknown l.app l.kinds ≡ has_unknown l.app (drop l.i l.kinds)
