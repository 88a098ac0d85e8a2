use Rattle.std.proofs.Common.{◌≡◌, map}
use Rattle.dex_tables.specs.Reading.{list_below}
use Rattle.dex_tables.specs.Rows.{string_text}
use Rattle.dex_file.proofs.reading.copy_texts.Given as goal

abbrev pub invariant-loop-i : goal.invariant-loop-i
invariant-loop-i l = map (λ text. text.items) l.texts.items ≡ list_below (string_text l.bytes) l.i
