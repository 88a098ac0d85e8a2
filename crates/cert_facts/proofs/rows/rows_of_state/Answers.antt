use Rattle.std.proofs.lemmas.List.{get_or_default}
use Rattle.cert_facts.proofs.Sought.{state_alone, state_none}
use Rattle.cert_facts.proofs.rows.rows_of_state.Goals as goal

pub returns-then-place-rows : goal.returns-then-place-rows
returns-then-place-rows c = state_alone _ _ _ _ _ c.rank_of.ensures c.first_from-place.ensures _ _ (c.requires c.if-not-rising.false) c.if-place-rows.true (get_or_default _ _ _ _ c.if-place-rows.true) c.from_ref.ensures.value

pub returns-else-place-rows : goal.returns-else-place-rows
returns-else-place-rows c = state_none _ _ _ _ _ c.rank_of.ensures c.first_from-place.ensures c.if-place-rows.false
