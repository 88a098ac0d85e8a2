use Rattle.std.proofs.Common.{◌≡◌}
use Rattle.dex_tables.specs.Reading.{list_below}
use Rattle.dex_code.specs.CodeItem.{code_unit}
use Rattle.dex_code.proofs.code_item.read_units.Given as goal

abbrev pub invariant-loop-k : goal.invariant-loop-k
invariant-loop-k l = l.units.items ≡ list_below (code_unit l.bytes l.at) l.k
