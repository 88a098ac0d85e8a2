use Rattle.std.proofs.Common.{sym}
use Rattle.dex_tables.proofs.Words.{units_place, uleb_past}
use Rattle.dex_tables.proofs.strings.units_from.Goals as goal

pub returns-then-off-bytes-clause-value : goal.returns-then-off-bytes-clause-value
returns-then-off-bytes-clause-value c = sym (uleb_past _ _ c.if-off-bytes.true)

pub returns-clause-place : goal.returns-clause-place
returns-clause-place c = units_place _ _ _ c.if-off-bytes.false c.uleb.ensures
