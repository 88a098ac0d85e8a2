use Rattle.tag_flow.specs.Turns.{Holds}
use Rattle.tag_flow.proofs.sweeping.settle.Given as goal

abbrev pub invariant-loop : goal.invariant-loop
invariant-loop l = Holds l.known l.fn.state l.state
