-- The certificate of least solutions without violations is accepted, and has a text.
use Rattle.std.proofs.Common.{◌≡◌, ◌<◌, ◌≤◌, ◌+◌, ◌^◌, ℕ, zero, suc, List, [], ◌∷◌, ◌++◌, length, Option, Some, None, refl, sym, ap, ◌∙◌, subst, ⊎_elim, inl, inr, arith, length-append}
use Rattle.std.specs.Prelude.{◌⊎◌, slice_get}
use Rattle.std.specs.List.{All}
use Rattle.std.proofs.lemmas.List.Elements.{All-from_recursion, recursion_from_All}
use Rattle.std.proofs.lemmas.Option.{get_or_from_slice_get, slice_get-get_or, slice_get_cases, slice_get_within}
use Rattle.app_model.specs.Shown.{lock_text}
use Rattle.app_model.specs.Subject.{IsSubject, SubjectParts, slot_count}
use Rattle.cert_line.specs.Lines.{IsDigest}
use Rattle.certificate.specs.Parts.{CertParts, LockRows}
use Rattle.certificate.specs.Texts.{IsCert, IsPart, certificate_text}
use Rattle.flow_model.specs.Derived.{HasAll, IsClosed, Set}
use Rattle.flow_model.specs.Policy.{AreViolations, IsViolation, MeetsPolicy}
use Rattle.flow_model.specs.Rules.{Carries, Rules}
use Rattle.flow_model.specs.declared.policy.Violation.{Violation}
use Rattle.solution.specs.Facts.{holds}
use Rattle.view_solver.proofs.Closed.{least_closed}
use Rattle.view_solver.proofs.Judged.{derived_violation}
use Rattle.cert_facts.specs.Sets.{facts_at, facts_in, facts_of}
use Rattle.cert_facts.specs.Shape.{FitsAt, FitsLock}
use Rattle.cert_check.specs.Verdict.{IsAccepted}
use Rattle.cert_laws.specs.Solved.{AreSolved, IsSolved}
use Rattle.cert_laws.proofs.Fits.{part_fits}
use Rattle.cert_laws.proofs.Names.{text_names}
use Rattle.cert_laws.proofs.Rows.{same_facts}

-- ---- parts one by one
pushed_at : {A : Type 0} (xs : List A) (y : A) (k : ℕ) (a : A) → slice_get (xs ++ y ∷ []) k ≡ Some a → (slice_get xs k ≡ Some a) ⊎ ((k ≡ length xs) × (y ≡ a))
pushed_at [] y zero a is = inr (refl, cc)
pushed_at [] y (suc k) a is = absurd (cc)
pushed_at (x ∷ xs) y zero a is = inl is
pushed_at (x ∷ xs) y (suc k) a is = ⊎_elim (λ old. inl old) (λ new. inr (ap suc new.0, new.1)) (pushed_at xs y k a is)

pub one_more : (x : SubjectParts) (n : ℕ) (parts : List LockRows) (part : LockRows) → AreSolved x n parts → IsSolved x n part → AreSolved x (n + 1) (parts ++ part ∷ [])
one_more x n parts part are is = record {
  len = length-append parts (part ∷ []) ∙ ap (λ (k : ℕ). k + 1) are.len;
  each = λ l other at. ⊎_elim
      (λ old. are.each l other old)
      (λ new. subst (λ (p : LockRows). IsSolved x l p) new.1 (subst (λ (k : ℕ). IsSolved x k part) (sym (new.0 ∙ are.len)) is))
      (pushed_at parts part l other at);
}

-- ---- a part of a certificate
none_past : {A : Type 0} (xs : List A) (k : ℕ) → slice_get xs k ≡ None → length xs ≤ k
none_past xs k none = ⊎_elim (λ found. absurd (let some = found.2 in cc)) (λ past. past.0) ((slice_get_cases xs k).1)

module _ (x : SubjectParts) (cert : CertParts) (sound : IsSubject x) (are : AreSolved x (slot_count x) cert.locks) where
  name_low : (l : ℕ) (part : LockRows) → slice_get cert.locks l ≡ Some part → length part.name ≤ length (certificate_text cert)
  name_low l part at =
      rw (get_or_from_slice_get cert.locks l part part at) at (All-from_recursion (λ (p : LockRows). length p.name ≤ length (certificate_text cert)) cert.locks (text_names cert) l part (slice_get_within cert.locks l part at))

  fits : length (certificate_text cert) < 2 ^ 32 → (l : ℕ) (part : LockRows) → slice_get cert.locks l ≡ Some part → FitsLock x l part
  fits low l part at =
      let is = are.each l part at in
      let slot : l < slot_count x = subst (λ (n : ℕ). l < n) are.len (slice_get_within cert.locks l part at) in
      let own : length part.name ≤ length (certificate_text cert) = name_low l part at in
      let name : length part.name ≡ length (lock_text x.app l) = ap (λ (p : LockRows). length p.name) is.rows in
      let short : length (lock_text x.app l) < 2 ^ 32 = omega arith in
      subst (FitsLock x l) (sym is.rows) (part_fits x l (holds is.facts) is.least slot short)

  shape : length (certificate_text cert) < 2 ^ 32 → (l : ℕ) (part : Option LockRows) → slice_get cert.locks l ≡ part → FitsAt x l part
  shape low l None at = subst (λ (n : ℕ). n ≤ l) are.len (none_past cert.locks l at)
  shape low l (Some part) at = fits low l part at

  solved : (l : ℕ) → l < slot_count x → (part : LockRows) × (slice_get cert.locks l ≡ Some part)
  solved l slot = ⊎_elim (λ found. (found.0, found.2)) (λ past. absurd (let le = past.0 in let len = are.len in omega arith)) ((slice_get_cases cert.locks l).1)

  facts_same : (l : ℕ) (part : LockRows) (at : slice_get cert.locks l ≡ Some part) → facts_at cert l ≡ holds (are.each l part at).facts
  facts_same l part at =
      let is = are.each l part at in
      ap facts_in at ∙ ap facts_of is.rows ∙ same_facts x l is.facts sound is.places is.least

  closed : (l : ℕ) → l < slot_count x → IsClosed (Rules x l) (facts_at cert l)
  closed l slot =
      let part = solved l slot in
      let is = are.each l part.0 part.1 in
      subst (IsClosed (Rules x l)) (sym (facts_same l part.0 part.1)) (least_closed (Rules x l) _ (holds is.facts) is.least)

  policy : AreViolations x [] → (l : ℕ) → l < slot_count x → MeetsPolicy x l (facts_at cert l)
  policy violations l slot c k s v =
      let part = solved l slot in
      let is = are.each l part.0 part.1 in
      let own = subst (λ (set : Set). IsViolation x (Carries x l) l (HasAll set) c k s) (facts_same l part.0 part.1) v in
      let derived = derived_violation x l (holds is.facts) c k s is.least own in
      let one : Violation = record { component = c; callback = k; lock = l; status = s } in
      let among = (violations.exact one).1 derived in
      let lt = among.1 in
      absurd (omega arith)

  pub is_accepted : AreViolations x [] → length (certificate_text cert) < 2 ^ 32 → IsAccepted x cert.list cert.dex cert
  is_accepted violations low = record {
    list_digest = refl;
    dex_digests = refl;
    shape = λ l. shape low l (slice_get cert.locks l) refl;
    closed = closed;
    policy = policy violations;
  }

  pub has_text : IsDigest cert.list → All IsDigest cert.dex → 0 < length cert.dex → IsCert cert
  has_text list dex some = record {
    lists = list;
    some_dex = some;
    dexes = recursion_from_All IsDigest cert.dex dex;
    parts = recursion_from_All IsPart cert.locks (λ l other lt. (are.each l _ (slice_get-get_or cert.locks l other lt)).text);
    counted = (let len = are.len in let few = sound.slots in omega arith);
  }
