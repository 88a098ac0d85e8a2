use Rattle.tag_flow.proofs.Masks.{IsPart}
use Rattle.tag_flow.proofs.known.Known.gone.Given as goal

abbrev pub invariant-loop-i : goal.invariant-loop-i
invariant-loop-i l = IsPart l.self l.callees l.i l.gone
