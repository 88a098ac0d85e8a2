use Rattle.std.proofs.Common.{◌≡◌, ◌+◌, drop}
use Rattle.dex_bytes.specs.Mutf8.{text_end}
use Rattle.dex_bytes.proofs.text.mutf8.Given as goal

abbrev pub invariant-loop-i : goal.invariant-loop-i
invariant-loop-i l = text_end l.at (l.at + l.i) l.wanted (drop l.i l.rest) ≡ text_end l.at l.at l.initial.wanted l.rest
