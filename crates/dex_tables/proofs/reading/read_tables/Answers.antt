use Rattle.std.proofs.Common.{sym, ap, ◌∙◌}
use Rattle.dex_tables.specs.Reading.{tables_in}
use Rattle.dex_tables.proofs.TableLaws.{reading_is}
use Rattle.dex_tables.proofs.reading.read_tables.Goals as goal

pub returns-in-Ok-clause-content : goal.returns-in-Ok-clause-content
returns-in-Ok-clause-content c = reading_is _ _ c.requires.whole (ap (tables_in c.args.bytes.now) (sym c.requires.header) ∙ c.in-Ok.ensures)
