use Rattle.call_reach.specs.Spread.{Turn, PassedBelow}
use Rattle.call_reach.proofs.spread.sweep.Given as goal

abbrev pub invariant-loop-place : goal.invariant-loop-place
invariant-loop-place l = Turn l.links (PassedBelow l.links l.place) l.fn.words l.words l.changed
