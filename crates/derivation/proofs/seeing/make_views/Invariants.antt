use Rattle.fact_log.specs.declared.log.Line.{Line}
use Rattle.std.proofs.Common.{List}
use Rattle.derivation.specs.Cuts.{AreSeen}
use Rattle.derivation.proofs.seeing.make_views.Given as goal

abbrev pub invariant-loop-k : goal.invariant-loop-k
invariant-loop-k l = (lines : List Line) → AreSeen lines l.views l.marks l.numbers l.seen.places.items l.seen.views.items l.k
