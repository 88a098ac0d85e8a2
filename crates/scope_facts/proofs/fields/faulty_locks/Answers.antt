use Rattle.std.proofs.Common.{ap, arith, length}
use Rattle.flow_model.specs.Breaks.{Candidate}
use Rattle.scope_facts.specs.Fields.{IsFaulty}
use Rattle.scope_facts.proofs.BitLaws.{all_locks, At, none_below, one_lock_more}
use Rattle.scope_facts.proofs.FieldLaws.{field_below}
use Rattle.scope_facts.proofs.fields.faulty_locks.Goals as goal

pub loop-l-init : goal.loop-l-init
loop-l-init c = none_below (At (IsFaulty c.args.case.now c.args.made))

pub loop-l-preserved : goal.loop-l-preserved
loop-l-preserved c =
    one_lock_more (IsFaulty c.args.case.now c.args.made) c.loop-l.l c.loop-l.faulty c.bit_if-faulty.result c.is_faulty.result c.loop-l.invariant c.bit_if-faulty.ensures c.is_faulty.ensures

pub returns : goal.returns
returns c =
    all_locks (IsFaulty c.args.case.now c.args.made) c.loop-l.l c.loop-l.faulty (λ l h. (let low = field_below c.args.case.now.app l h.0 h.1 in omega (arith, low, ap (λ (x : Candidate). length x.app.locks) c.case.view_is, c.loop-l-test.false, c.lock_count-l-end.ensures.count))) c.loop-l.invariant
