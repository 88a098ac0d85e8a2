use Rattle.dex_tables.proofs.TableLaws.{reading_is, is_reading}
use Rattle.dex_tables.proofs.reading.tables_law.Goals as goal

pub returns : goal.returns
returns c = λ bs tables whole. (reading_is bs tables whole, is_reading bs tables)
