use Rattle.std.proofs.Common.{sym, ◌∙◌}
use Rattle.solver.proofs.Visits.{opened, calls_turn, calls_none}
use Rattle.solver.proofs.calls.call_all.Goals as goal

pub returns-then-is_empty : goal.returns-then-is_empty
returns-then-is_empty c = λ masks. calls_none _ _ masks _ _ _ _ _ c.callees-callees.ensures (sym c.is_empty.ensures ∙ c.if-is_empty.true)

pub call_each-requires-clause-opened : goal.call_each-requires-clause-opened
call_each-requires-clause-opened c = opened _ _ _ _ _ _ _ _ _ _ c.open_mask.ensures c.requires c.itself.ensures c.join-opened.ensures

pub returns : goal.returns
returns c = λ masks. calls_turn _ _ masks _ _ _ _ _ _ _ _ _ _ c.all_of.ensures c.open_mask.ensures c.itself.ensures c.join-opened.ensures (c.call_each.ensures masks)
