use Rattle.tag_flow.specs.Turns.{Turn}
use Rattle.tag_flow.specs.Goals.{Below, MethodVisited}
use Rattle.tag_flow.proofs.sweeping.visit_all.Given as goal

abbrev pub invariant-loop-method : goal.invariant-loop-method
invariant-loop-method l = Turn l.known (Below (MethodVisited l.known) l.method) l.fn.state l.state l.changed
