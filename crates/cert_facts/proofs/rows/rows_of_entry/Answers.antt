use Rattle.cert_facts.proofs.Sought.{entry_alone, entry_none}
use Rattle.cert_facts.proofs.rows.rows_of_entry.Goals as goal

pub returns-then-place-rows : goal.returns-then-place-rows
returns-then-place-rows c = entry_alone _ _ _ _ _ c.rank_of.ensures c.first_from-place.ensures _ _ (c.requires c.if-not-rising.false) c.if-place-rows.true c.index-rows-place.is c.from_ref.ensures.value

pub returns-else-place-rows : goal.returns-else-place-rows
returns-else-place-rows c = entry_none _ _ _ _ _ c.rank_of.ensures c.first_from-place.ensures c.if-place-rows.false
