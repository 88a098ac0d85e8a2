use Rattle.tag_flow.specs.Turns.{Turn}
use Rattle.tag_flow.specs.Goals.{Below, CalleeNoDone}
use Rattle.tag_flow.proofs.calling.call_all.Given as goal

abbrev pub invariant-loop-i : goal.invariant-loop-i
invariant-loop-i l = Turn l.known (Below (CalleeNoDone l.known l.from.method.0 l.from.index l.act) l.i) l.fn.state l.state l.changed
