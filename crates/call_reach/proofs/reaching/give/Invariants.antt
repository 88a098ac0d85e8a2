use Rattle.std.proofs.Common.{take}
use Rattle.call_reach.specs.Starts.{AreGiven}
use Rattle.call_reach.proofs.reaching.give.Given as goal

abbrev pub invariant-loop-i : goal.invariant-loop-i
invariant-loop-i l = AreGiven (take l.i l.from) l.fn.words l.words
