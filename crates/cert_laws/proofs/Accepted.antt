-- What is accepted is valid, and then the rules derive no violation.
use Rattle.std.proofs.Common.{ℕ, List, [], ⊎_elim, subst, arith}
use Rattle.app_model.specs.Subject.{SubjectParts}
use Rattle.certificate.specs.Parts.{CertParts}
use Rattle.flow_model.specs.Derived.{Set, IsClosed}
use Rattle.flow_model.specs.Policy.{AreViolations, IsDerivableViolation, MeetsPolicy, none_given}
use Rattle.flow_model.specs.Rules.{Rules}
use Rattle.flow_model.proofs.Laws.{in_closed}
use Rattle.cert_facts.specs.Sets.{facts_at}
use Rattle.cert_check.specs.Verdict.{IsAccepted, IsVerdict, Precedes, order}
use Rattle.cert_check.specs.declared.verdict.Checked.{Checked}
use Rattle.cert_check.specs.declared.verdict.Checked.TheVariants.{Valid}
use Rattle.cert_check.proofs.Verdicts.{accepted_valid}

not_before : Precedes (order Valid) (order Valid) → ⊥
not_before before = ⊎_elim (λ less. absurd (omega arith)) (λ z. z.1) before

pub is_valid : (x : SubjectParts) (list : List ℕ) (dex : List (List ℕ)) (cert : CertParts) → IsAccepted x list dex cert → IsVerdict x list dex cert Valid
is_valid x list dex cert is = record {
  says = tt;
  first = λ other before says. not_before (subst (λ (answer : Checked). Precedes (order answer) (order Valid)) (accepted_valid x list dex cert other says is) before);
}

-- a closed set that meets the policy has what is derived
none_derived : (x : SubjectParts) (l : ℕ) (set : Set) → IsClosed (Rules x l) set → MeetsPolicy x l set → (c k s : ℕ) → ¬ IsDerivableViolation x l c k s
none_derived x l set closed meets c k s v = meets c k s (record {
  state = v.state;
  before = v.before;
  number = v.number;
  edge = v.edge;
  needs = v.needs;
  slot = v.slot;
  there = v.there;
  from = v.from;
  callback = v.callback;
  carried = v.carried;
  holds = in_closed (Rules x l) none_given set (λ f given. absurd (cc)) closed v.holds;
  exit = v.exit;
  held = v.held;
  answers = v.answers;
})

pub is_sound : (x : SubjectParts) (list : List ℕ) (dex : List (List ℕ)) (cert : CertParts) → IsAccepted x list dex cert → AreViolations x []
is_sound x list dex cert is = record {
  ordered = λ i j d lt below. absurd (omega arith);
  exact = λ v. (
    (λ among. absurd (let lt = among.1 in omega arith)),
    (λ viol. absurd (none_derived x v.lock (facts_at cert v.lock) (is.closed v.lock viol.slot) (is.policy v.lock viol.slot) v.component v.callback v.status viol)),
  );
}
