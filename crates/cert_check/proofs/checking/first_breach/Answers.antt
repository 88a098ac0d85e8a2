use Rattle.std.proofs.Common.{◌≡◌, ◌∙◌, arith, refl, sym}
use Rattle.std.proofs.lemmas.Option.{slice_get_read}
use Rattle.app_model.specs.Subject.{slot_count}
use Rattle.cert_check.proofs.Breaches.{lock_more, lock_some}
use Rattle.cert_check.proofs.Locks.{part_within, part_case}
use Rattle.cert_check.proofs.checking.first_breach.Goals as goal

pub bounds-parts-lock : goal.bounds-parts-lock
bounds-parts-lock c = part_within c.args.subject.now c.args.parts.now _ c.requires (omega (arith, c.loop-lock-test.true, c.lock_count-lock-end.ensures.count))

pub first_of_lock-found-requires : goal.first_of_lock-found-requires
first_of_lock-found-requires c =
    part_case c.args.subject.now c.args.parts.now _ _ c.told.ensures c.requires
    (slice_get_read _ _ _ _ refl (part_within c.args.subject.now c.args.parts.now _ c.requires (omega (arith, c.loop-lock-test.true, c.lock_count-lock-end.ensures.count))) c.index-parts-lock.is)

pub returns-then-is_some : goal.returns-then-is_some
returns-then-is_some c =
    lock_some c.args.subject.now c.args.parts.now _ c.index-parts-lock.result
    (slice_get_read _ _ _ _ refl (part_within c.args.subject.now c.args.parts.now _ c.requires (omega (arith, c.loop-lock-test.true, c.lock_count-lock-end.ensures.count))) c.index-parts-lock.is)
    _ _ (omega (arith, c.loop-lock-test.true, c.lock_count-lock-end.ensures.count)) c.loop-lock.invariant c.first_of_lock-found.ensures (sym c.is_some.ensures ∙ c.if-is_some.true)

pub loop-lock-preserved : goal.loop-lock-preserved
loop-lock-preserved c =
    lock_more c.args.subject.now c.args.parts.now _ c.index-parts-lock.result
    (slice_get_read _ _ _ _ refl (part_within c.args.subject.now c.args.parts.now _ c.requires (omega (arith, c.loop-lock-test.true, c.lock_count-lock-end.ensures.count))) c.index-parts-lock.is)
    _ c.loop-lock.invariant c.first_of_lock-found.ensures (sym c.is_some.ensures ∙ c.if-is_some.false)

pub returns : goal.returns
returns c = (let all : c.loop-lock.lock ≡ slot_count c.args.subject.now = omega (arith, c.loop-lock-test.false, c.loop-lock.auto.lock-end, c.lock_count-lock-end.ensures.count) in rw all at c.loop-lock.invariant)
