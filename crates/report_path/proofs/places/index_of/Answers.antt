use Rattle.std.proofs.Common.{arith}
use Rattle.report_path.proofs.Pcs.{index_is, index_none, no_method, none_at, pc_within}
use Rattle.report_path.proofs.places.index_of.Goals as goal

pub returns-then-method-method_count-clause-index : goal.returns-then-method-method_count-clause-index
returns-then-method-method_count-clause-index c = no_method _ _ _ c.told.ensures (omega (arith, c.if-method-method_count.true, c.method_count.ensures))

pub returns-then-is_at-clause-index : goal.returns-then-is_at-clause-index
returns-then-is_at-clause-index c = index_is _ _ c.told.ensures (omega (arith, c.if-method-method_count.false, c.method_count.ensures)) _ _ (c.is_at.ensures.0 c.if-is_at.true)

pub returns-then-is_at-clause-within : goal.returns-then-is_at-clause-within
returns-then-is_at-clause-within c = pc_within _ _ _ _ (c.is_at.ensures.0 c.if-is_at.true)

pub returns-else-is_at-clause-index : goal.returns-else-is_at-clause-index
returns-else-is_at-clause-index c = index_none _ _ _ (none_at _ _ c.told.ensures (omega (arith, c.if-method-method_count.false, c.method_count.ensures)) _ _ c.first_from-index.ensures (λ at. (let t = c.is_at.ensures.1 at in let f = c.if-is_at.false in cc)))
