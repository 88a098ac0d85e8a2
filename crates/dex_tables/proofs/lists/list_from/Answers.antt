use Rattle.dex_tables.proofs.Words.{no_list}
use Rattle.dex_tables.proofs.lists.list_from.Goals as goal

pub returns-then-off-eq0-clause-room : goal.returns-then-off-eq0-clause-room
returns-then-off-eq0-clause-room c = no_list _ _ _ c.if-off-eq0.true c.requires
