use Rattle.std.proofs.Common.{arith}
use Rattle.scope_facts.specs.Texts.{IsBelowLock}
use Rattle.scope_facts.proofs.BitLaws.{all_locks, At, none_below, one_lock_more}
use Rattle.scope_facts.proofs.FieldLaws.{field_below}
use Rattle.scope_facts.proofs.kinds.above_of.Goals as goal

pub loop-l-init : goal.loop-l-init
loop-l-init c = none_below (At (IsBelowLock c.args.app.now c.args.kind.0))

pub loop-l-preserved : goal.loop-l-preserved
loop-l-preserved c =
    one_lock_more (IsBelowLock c.args.app.now c.args.kind.0) c.loop-l.l c.loop-l.above c.bit_if-above.result c.is_below.result c.loop-l.invariant c.bit_if-above.ensures c.is_below.ensures

pub returns : goal.returns
returns c =
    all_locks (IsBelowLock c.args.app.now c.args.kind.0) c.loop-l.l c.loop-l.above (λ l h. (let low = field_below c.args.app.now l h.0 h.1 in omega (arith, low, c.loop-l-test.false, c.lock_count-l-end.ensures.count))) c.loop-l.invariant
