-- The verdict, from what was found.
use Rattle.std.proofs.Common.{◌≡◌, ◌<◌, ℕ, List, Some, None, refl, sym, ap, ◌∙◌, ⊎_elim, arith}
use Rattle.std.specs.Prelude.{◌⊎◌, ◌↔◌, slice_get}
use Rattle.std.proofs.lemmas.Bool.{cases_Bool, false≢true}
use Rattle.app_model.specs.Subject.{SubjectParts, slot_count}
use Rattle.certificate.specs.Parts.{CertParts}
use Rattle.flow_model.specs.Derived.{IsClosed}
use Rattle.flow_model.specs.Places.{place}
use Rattle.flow_model.specs.Rules.{Rules}
use Rattle.flow_model.specs.declared.policy.Violation.{Violation}
use Rattle.cert_check.specs.Broken.{place_of}
use Rattle.cert_check.specs.Ends.{IsFirstUnmet}
use Rattle.cert_check.specs.Firsts.{IsFirstBreach}
use Rattle.cert_facts.specs.Sets.{facts_at}
use Rattle.cert_facts.specs.Shape.{FitsAt}
use Rattle.cert_check.specs.Verdict.{IsAccepted, IsVerdict, Precedes, Says, order}
use Rattle.cert_check.specs.declared.checking.Breach.{Breach}
use Rattle.cert_check.specs.declared.verdict.Checked.{Checked}
use Rattle.cert_check.specs.declared.verdict.Checked.TheVariants.{Valid, ListDigest, DexDigest, Shape, Broken, Unmet}
use Rattle.cert_check.proofs.Instances.{named_rule, rule_again}

-- what is tried later does not come before
later : (m n : ℕ) (P : Type 0) → n < m → (m < n) ⊎ ((m ≡ n) × P) → ⊥
later m n P lt before = ⊎_elim (λ less. absurd (omega arith)) (λ z. absurd (let same = z.0 in omega arith)) before

-- of what is tried at the same time the rest decides
rest_of : (n : ℕ) (P : Type 0) → (n < n) ⊎ ((n ≡ n) × P) → P
rest_of n P before = ⊎_elim (λ less. absurd (omega arith)) (λ z. z.1) before

module _ (x : SubjectParts) (list : List ℕ) (dex : List (List ℕ)) (cert : CertParts) where
  -- a valid certificate has no other verdict
  pub accepted_valid : (answer : Checked) → Says x list dex cert answer → IsAccepted x list dex cert → answer ≡ Valid
  accepted_valid Valid says is = refl
  accepted_valid ListDigest says is = absurd (says is.list_digest)
  accepted_valid (DexDigest i) says is = absurd (says (ap (λ (ds : List (List ℕ)). slice_get ds i) is.dex_digests))
  accepted_valid (Shape l) says is = absurd (says (is.shape l))
  accepted_valid (Broken rule l a b c) says is = absurd (let out = says.1 in false≢true (sym out.lacks ∙ (is.closed l says.0).by out.needs out.fact out.rule out.has))
  accepted_valid (Unmet c k l s) says is = absurd (is.policy l says.slot c k s says)

  module _ (one : cert.list ≡ list) (two : cert.dex ≡ dex) (fits : (l : ℕ) → FitsAt x l (slice_get cert.locks l)) where
    pub verdict_broken : (f : Breach) → IsFirstBreach x cert.locks (slot_count x) (Some f) → IsVerdict x list dex cert (Broken f.rule f.lock f.a f.b f.c)
    verdict_broken f found = record { says = (found.0, found.1); first = go }
      where
        go : (other : Checked) → Precedes (order other) (order (Broken f.rule f.lock f.a f.b f.c)) → ¬ Says x list dex cert other
        go ListDigest before = λ says. says one
        go (DexDigest i) before = λ says. says (ap (λ (ds : List (List ℕ)). slice_get ds i) two)
        go (Shape l) before = λ says. says (fits l)
        go (Broken rule l a b c) before = λ says. found.2 l rule a b c (rest_of 3 _ before) says.1
        go (Unmet c k l s) before = absurd (later 4 3 _ (omega arith) before)
        go Valid before = absurd (later 5 3 _ (omega arith) before)

    module _ (none : IsFirstBreach x cert.locks (slot_count x) None) where
      pub verdict_unmet : (v : Violation) → IsFirstUnmet x cert.locks (slot_count x) (Some v) → IsVerdict x list dex cert (Unmet v.component v.callback v.lock v.status)
      verdict_unmet v found = record { says = found.1; first = go }
        where
          go : (other : Checked) → Precedes (order other) (order (Unmet v.component v.callback v.lock v.status)) → ¬ Says x list dex cert other
          go ListDigest before = λ says. says one
          go (DexDigest i) before = λ says. says (ap (λ (ds : List (List ℕ)). slice_get ds i) two)
          go (Shape l) before = λ says. says (fits l)
          go (Broken rule l a b c) before = λ says. none l rule a b c says.0 says.1
          go (Unmet c k l s) before = λ says. found.2 c k l s says.slot (rest_of 4 _ before) says
          go Valid before = absurd (later 5 4 _ (omega arith) before)

      module _ (met : IsFirstUnmet x cert.locks (slot_count x) None) where
        pub verdict_valid : IsVerdict x list dex cert Valid
        verdict_valid = record { says = tt; first = go }
          where
            go : (other : Checked) → Precedes (order other) (order Valid) → ¬ Says x list dex cert other
            go ListDigest before = λ says. says one
            go (DexDigest i) before = λ says. says (ap (λ (ds : List (List ℕ)). slice_get ds i) two)
            go (Shape l) before = λ says. says (fits l)
            go (Broken rule l a b c) before = λ says. none l rule a b c says.0 says.1
            go (Unmet c k l s) before = λ says. met c k l s says.slot says
            go Valid before = absurd (rest_of 5 _ before)

        closed : (l : ℕ) → l < slot_count x → IsClosed (Rules x l) (facts_at cert l)
        closed l slot = record {
          by = λ needs f rule has. ⊎_elim (λ yes. yes) (λ off. absurd (let at = place_of x l rule in
              none l (named_rule at.rule) at.a at.b at.c slot (record { needs = needs; fact = f; rule = rule; there = sym (ap (λ q. place q at.a at.b at.c) (rule_again at.rule)); has = has; lacks = off }))) (cases_Bool (facts_at cert l f));
        }

        pub accepted : IsAccepted x list dex cert
        accepted = record { list_digest = one; dex_digests = two; shape = fits; closed = closed; policy = λ l slot c k s v. met c k l s slot v }

  pub refused : (answer : Checked) → IsVerdict x list dex cert answer → ¬ (answer ≡ Valid) → (answer ≡ Valid) ↔ IsAccepted x list dex cert
  refused answer verdict other = ((λ is. absurd (other is)), (λ is. accepted_valid answer verdict.says is))
