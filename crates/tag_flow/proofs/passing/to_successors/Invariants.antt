use Rattle.tag_flow.specs.Turns.{Turn}
use Rattle.tag_flow.specs.Goals.{Below, Succeeded}
use Rattle.tag_flow.proofs.passing.to_successors.Given as goal

abbrev pub invariant-loop-number : goal.invariant-loop-number
invariant-loop-number l = Turn l.known (Below (Succeeded l.known l.from.method.0 l.from.index l.change) l.number) l.fn.state l.state l.changed
