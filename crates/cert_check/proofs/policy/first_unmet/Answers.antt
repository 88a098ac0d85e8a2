use Rattle.std.proofs.Common.{arith, refl, ◌≡◌}
use Rattle.std.proofs.lemmas.Option.{slice_get_read}
use Rattle.app_model.specs.Subject.{slot_count}
use Rattle.cert_check.proofs.Locks.{part_within, part_case, unmet_more}
use Rattle.cert_check.proofs.policy.first_unmet.Goals as goal

pub bounds-parts-lock : goal.bounds-parts-lock
bounds-parts-lock c = part_within c.args.subject.now c.args.parts.now _ c.requires (omega (arith, c.loop-lock-test.true, c.lock_count-lock-end.ensures.count))

pub new-task-requires : goal.new-task-requires
new-task-requires c =
    part_case c.args.subject.now c.args.parts.now _ _ c.told.ensures c.requires
    (slice_get_read _ _ _ _ refl (part_within c.args.subject.now c.args.parts.now _ c.requires (omega (arith, c.loop-lock-test.true, c.lock_count-lock-end.ensures.count))) c.index-parts-lock.is)

pub loop-lock-preserved : goal.loop-lock-preserved
loop-lock-preserved c =
    rw c.earlier-first.ensures
    (unmet_more c.args.subject.now c.args.parts.now _ c.index-parts-lock.result
    (slice_get_read _ _ _ _ refl (part_within c.args.subject.now c.args.parts.now _ c.requires (omega (arith, c.loop-lock-test.true, c.lock_count-lock-end.ensures.count))) c.index-parts-lock.is)
    _ _ c.loop-lock.invariant (rw c.new-task.ensures at c.first_of.ensures))

pub returns : goal.returns
returns c = (let all : c.loop-lock.lock ≡ slot_count c.args.subject.now = omega (arith, c.loop-lock-test.false, c.loop-lock.auto.lock-end, c.lock_count-lock-end.ensures.count) in rw all at c.loop-lock.invariant)
