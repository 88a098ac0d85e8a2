use Rattle.call_reach.specs.Spread.{Keeps}
use Rattle.call_reach.proofs.spread.approach.Given as goal

abbrev pub invariant-loop-step : goal.invariant-loop-step
invariant-loop-step l = Keeps l.links l.fn.words l.words
