use Rattle.cert_check.proofs.Verdicts.{verdict_broken, verdict_unmet, verdict_valid, accepted, accepted_valid, refused}
use Rattle.cert_check.proofs.checking.check.Goals as goal

pub returns-in-Some-first_breach-clause-verdict : goal.returns-in-Some-first_breach-clause-verdict
returns-in-Some-first_breach-clause-verdict c =
    rw (← c.cert.view_is)
    (verdict_broken _ _ _ _ (c.is_digest.ensures.0 c.if-not-is_digest.false) (rw c.deref.ensures.value at c.in_default.ensures) (rw c.deref-2.ensures.value at c.in_default-first_unfit.ensures)
    c.in-Some-first_breach.breach (rw c.deref-3.ensures.value at c.in-Some-first_breach.ensures))

pub returns-in-Some-first_unmet-clause-verdict : goal.returns-in-Some-first_unmet-clause-verdict
returns-in-Some-first_unmet-clause-verdict c =
    rw (← c.cert.view_is)
    (verdict_unmet _ _ _ _ (c.is_digest.ensures.0 c.if-not-is_digest.false) (rw c.deref.ensures.value at c.in_default.ensures) (rw c.deref-2.ensures.value at c.in_default-first_unfit.ensures)
    (rw c.deref-3.ensures.value at c.in_default-first_breach.ensures) c.in-Some-first_unmet.violation (rw c.deref-4.ensures.value at c.in-Some-first_unmet.ensures))

pub returns-in-Some-first_unmet-clause-valid : goal.returns-in-Some-first_unmet-clause-valid
returns-in-Some-first_unmet-clause-valid c = refused c.args.subject.now c.args.list.now c.args.dex.now c.args.cert.now _ (returns-in-Some-first_unmet-clause-verdict c) (λ same. absurd (cc))

pub returns-in-None-clause-verdict : goal.returns-in-None-clause-verdict
returns-in-None-clause-verdict c =
    rw (← c.cert.view_is)
    (verdict_valid _ _ _ _ (c.is_digest.ensures.0 c.if-not-is_digest.false) (rw c.deref.ensures.value at c.in_default.ensures) (rw c.deref-2.ensures.value at c.in_default-first_unfit.ensures)
    (rw c.deref-3.ensures.value at c.in_default-first_breach.ensures) (rw c.deref-4.ensures.value at c.in-None.ensures))

pub returns-in-None-clause-valid : goal.returns-in-None-clause-valid
returns-in-None-clause-valid c = (
  (λ same.
      rw (← c.cert.view_is)
      (accepted _ _ _ _ (c.is_digest.ensures.0 c.if-not-is_digest.false) (rw c.deref.ensures.value at c.in_default.ensures) (rw c.deref-2.ensures.value at c.in_default-first_unfit.ensures)
      (rw c.deref-3.ensures.value at c.in_default-first_breach.ensures) (rw c.deref-4.ensures.value at c.in-None.ensures))),
  (λ is. accepted_valid c.args.subject.now c.args.list.now c.args.dex.now c.args.cert.now _ (returns-in-None-clause-verdict c).says is),
)
