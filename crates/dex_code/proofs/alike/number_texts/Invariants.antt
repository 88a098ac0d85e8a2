use Rattle.dex_code.specs.Alike.{AreFirsts}
use Rattle.dex_code.proofs.alike.number_texts.Given as goal

abbrev pub invariant-loop-s : goal.invariant-loop-s
invariant-loop-s l = AreFirsts l.bytes l.firsts l.numbers.items l.s
