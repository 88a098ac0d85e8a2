use Rattle.std.proofs.Common.{ℕ, ◌<◌, length, arith, ◌∙◌, sym}
use Rattle.ns_base.specs.declared.rows.FieldNo.{FieldNo}
use Rattle.app_model.proofs.Searches.{lock_here, lock_none}
use Rattle.app_model.proofs.app.App.lock_in.Goals as goal

pub returns-then-is_named_field : goal.returns-then-is_named_field
returns-then-is_named_field c =
    lock_here _ _ _ _ _ (record { 0 = 0 }) c.locks-locks.ensures c.loop-i-test.true c.loop-i.invariant
    (sym c.is_named_field.ensures ∙ c.if-is_named_field.true)

pub returns : goal.returns
returns c =
    lock_none _ _ _ _ c.locks-locks.ensures
    (λ (k : ℕ) (f : FieldNo) (below : k < length c.locks-locks.result.now). c.loop-i.invariant k f (omega (arith, below, c.loop-i-test.false)))
