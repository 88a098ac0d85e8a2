use Rattle.tag_flow.specs.Turns.{Turn}
use Rattle.tag_flow.specs.Goals.{Below, IsVisited}
use Rattle.tag_flow.proofs.sweeping.visit_code.Given as goal

abbrev pub invariant-loop-index : goal.invariant-loop-index
invariant-loop-index l = Turn l.known (Below (IsVisited l.known l.method.0) l.index) l.fn.state l.state l.changed
