-- A certificate has one verdict over subjects that are alike.
use Rattle.std.proofs.Common.{◌≡◌, ◌<◌, ℕ, List, length, Option, Some, None, sym, ap, ◌∙◌, subst}
use Rattle.std.specs.Prelude.{slice_get}
use Rattle.app_model.specs.Parts.{AppParts}
use Rattle.app_model.specs.Subject.{SubjectParts, is_reached, slot_count}
use Rattle.certificate.specs.Parts.{CertParts, LockRows}
use Rattle.cert_line.specs.Parts.{BodyParts}
use Rattle.flow_model.specs.Derived.{HasAll}
use Rattle.flow_model.specs.InScope.{IsInScope}
use Rattle.flow_model.specs.Places.{place}
use Rattle.one_scope.specs.Alike.{AreAlike}
use Rattle.one_scope.proofs.Graphs.{same_reach}
use Rattle.one_scope.proofs.Owners.{beside, in_scope, is_second, targets}
use Rattle.one_scope.proofs.Rules.{same_closed, same_policy, violation_over}
use Rattle.cert_facts.specs.Sets.{facts_at}
use Rattle.cert_facts.specs.Shape.{FitsAt, FitsBody}
use Rattle.cert_check.specs.Verdict.{IsAccepted, IsVerdict, Says, rule_of}
use Rattle.cert_check.specs.declared.verdict.Checked.{Checked}
use Rattle.cert_check.specs.declared.verdict.Checked.TheVariants.{Broken, DexDigest, ListDigest, Shape, Unmet, Valid}
use Rattle.cert_laws.proofs.Places.{leads_over}

module _ (x y : SubjectParts) (left : IsInScope x) (right : IsInScope (beside x y)) where
  body_over : (row : BodyParts) → FitsBody x row → FitsBody (beside x y) row
  body_over row fits = record {
    status = fits.status;
    reached = sym (same_reach x.graph y.graph (targets x y left right) x.list (is_reached x) (is_reached (beside x y)) left.reached right.reached row.method) ∙ fits.reached;
    code = fits.code;
  }

  pub fits_over : (l : ℕ) (part : Option LockRows) → FitsAt x l part → FitsAt (beside x y) l part
  unfolding slot_count
  fits_over l None past = past
  fits_over l (Some part) fits = record { slot = fits.slot; name = fits.name; views = fits.views; bodies = λ k d lt. body_over _ (fits.bodies k d lt) }

module _ (x y : SubjectParts) (left : IsInScope x) (right : IsInScope (beside x y)) (list : List ℕ) (dex : List (List ℕ)) (cert : CertParts) where
  says_over : (answer : Checked) → Says x list dex cert answer → Says (beside x y) list dex cert answer
  unfolding slot_count
  says_over Valid says = tt
  says_over ListDigest says = says
  says_over (DexDigest i) says = says
  says_over (Shape l) says = λ fits. says (fits_over (beside x y) x right left l (slice_get cert.locks l) fits)
  says_over (Broken rule l a b c) says = (says.0, leads_over x y left right l (facts_at cert l) (place (rule_of rule) a b c) says.1)
  says_over (Unmet c k l s) says = violation_over x y left right l (HasAll (facts_at cert l)) (HasAll (facts_at cert l)) (λ fs has. has) c k s says

verdict_over : (x y : SubjectParts) → IsInScope x → IsInScope (beside x y) → (list : List ℕ) (dex : List (List ℕ)) (cert : CertParts) (answer : Checked) → IsVerdict x list dex cert answer → IsVerdict (beside x y) list dex cert answer
verdict_over x y left right list dex cert answer is = record {
  says = says_over x y left right list dex cert answer is.says;
  first = λ other before says. is.first other before (says_over (beside x y) x right left list dex cert other says);
}

pub same_verdict : (x y : SubjectParts) → AreAlike x y → (list : List ℕ) (dex : List (List ℕ)) (cert : CertParts) (answer : Checked) → IsVerdict x list dex cert answer → IsVerdict y list dex cert answer
same_verdict x y alike list dex cert answer is =
    subst (λ (z : SubjectParts). IsVerdict z list dex cert answer) (is_second x y alike) (verdict_over x y alike.first (in_scope x y alike) list dex cert answer is)

same_slots : (x y : SubjectParts) → AreAlike x y → slot_count y ≡ slot_count x
unfolding slot_count
same_slots x y alike = ap (λ (app : AppParts). length app.locks) (sym alike.app)

pub same_accepted : (x y : SubjectParts) → AreAlike x y → (list : List ℕ) (dex : List (List ℕ)) (cert : CertParts) → IsAccepted x list dex cert → IsAccepted y list dex cert
same_accepted x y alike list dex cert is = record {
  list_digest = is.list_digest;
  dex_digests = is.dex_digests;
  shape = λ l. subst (λ (z : SubjectParts). FitsAt z l (slice_get cert.locks l)) (is_second x y alike) (fits_over x y alike.first (in_scope x y alike) l (slice_get cert.locks l) (is.shape l));
  closed = λ l slot. same_closed x y alike l (facts_at cert l) (is.closed l (subst (λ (n : ℕ). l < n) (same_slots x y alike) slot));
  policy = λ l slot. same_policy x y alike l (facts_at cert l) (is.policy l (subst (λ (n : ℕ). l < n) (same_slots x y alike) slot));
}
