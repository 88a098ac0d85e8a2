use Rattle.std.proofs.Common.{◌≡◌, ◌+◌, ◌*◌, false, cond}
use Rattle.call_reach.specs.Spread.{AllPassed, Keeps, room}
use Rattle.call_reach.proofs.spread.close.Given as goal

abbrev pub invariant-loop-changed : goal.invariant-loop-changed
invariant-loop-changed l = record {
  keeps : Keeps l.links l.fn.words l.words;
  done : l.changed ≡ false → AllPassed l.links l.words;
}

abbrev pub decreases-loop-changed : goal.decreases-loop-changed
decreases-loop-changed l = 2 * room l.words + cond l.changed 1 0
