use Rattle.std.proofs.Common.{◌≡◌, ◌+◌, ◌*◌, false, cond}
use Rattle.tag_flow.specs.State.{IsState, state_room}
use Rattle.tag_flow.specs.Turns.{IsBelow}
use Rattle.tag_flow.specs.Goals.{AllVisited}
use Rattle.tag_flow.proofs.sweeping.close.Given as goal

abbrev pub invariant-loop-changed : goal.invariant-loop-changed
invariant-loop-changed l = record {
  state : IsState l.known l.state;
  below : IsBelow l.known l.state;
  done : l.changed ≡ false → AllVisited l.known l.state;
}

abbrev pub decreases-loop-changed : goal.decreases-loop-changed
decreases-loop-changed l = 2 * state_room l.state + cond l.changed 1 0
