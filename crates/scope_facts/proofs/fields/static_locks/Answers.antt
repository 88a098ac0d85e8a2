use Rattle.std.proofs.Common.{arith}
use Rattle.scope_facts.specs.Fields.{IsStatic}
use Rattle.scope_facts.proofs.BitLaws.{all_locks, At, none_below, one_lock_more}
use Rattle.scope_facts.proofs.FieldLaws.{field_below}
use Rattle.scope_facts.proofs.fields.static_locks.Goals as goal

pub loop-l-init : goal.loop-l-init
loop-l-init c = none_below (At (IsStatic c.args.app.now))

pub loop-l-preserved : goal.loop-l-preserved
loop-l-preserved c =
    one_lock_more (IsStatic c.args.app.now) c.loop-l.l c.loop-l.statics c.bit_if-statics.result c.is_static_lock.result c.loop-l.invariant c.bit_if-statics.ensures c.is_static_lock.ensures

pub returns : goal.returns
returns c =
    all_locks (IsStatic c.args.app.now) c.loop-l.l c.loop-l.statics (λ l h. (let low = field_below c.args.app.now l h.0 h.1 in omega (arith, low, c.loop-l-test.false, c.lock_count-l-end.ensures.count))) c.loop-l.invariant
