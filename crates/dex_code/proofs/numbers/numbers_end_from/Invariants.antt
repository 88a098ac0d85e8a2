use Rattle.std.proofs.Common.{◌≡◌, ◌≤◌, Ok}
use Rattle.dex_code.specs.Reading.{numbers_end}
use Rattle.dex_code.proofs.numbers.numbers_end_from.Given as goal

abbrev pub invariant-loop-i : goal.invariant-loop-i
invariant-loop-i l = record { value : numbers_end l.bytes l.at l.i ≡ Ok l.end; later : l.at ≤ l.end }
