use Rattle.dex_tables.proofs.Words.{text_within, text_counted}
use Rattle.dex_tables.proofs.strings.end_from.Goals as goal

pub returns-clause-within : goal.returns-clause-within
returns-clause-within c = text_within _ _ _ _ c.mutf8.ensures

pub returns-clause-text : goal.returns-clause-text
returns-clause-text c = text_counted _ _ _ _ c.mutf8.ensures
