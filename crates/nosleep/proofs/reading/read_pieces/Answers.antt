use Rattle.std.proofs.Common.{arith}
use Rattle.nosleep.proofs.Pieces.{HasEnding-last}
use Rattle.nosleep.proofs.reading.read_pieces.Goals as goal

pub returns-in-Last-clause-ending : goal.returns-in-Last-clause-ending
returns-in-Last-clause-ending g c =
    HasEnding-last _ _ _ _ _ _ _ _ _ (c.loop-ending.invariant.keeps.same c.args.name.now) c.loop-ending.invariant.front (omega arith) c.loop-ending.invariant.keeps.later
    (rw c.in-Last.is at c.in_ok-ending.ensures.turn)
