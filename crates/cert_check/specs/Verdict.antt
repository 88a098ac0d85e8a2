-- The verdict on a certificate, for a subject and the digests of the files from which it was made.
use Rattle.std.specs.Prelude.{ℕ, ◌≡◌, ◌≢◌, ◌<◌, ◌⊎◌, List, [], ◌∷◌, slice_get}
use Rattle.app_model.specs.Subject.{SubjectParts, slot_count}
use Rattle.certificate.specs.Parts.{CertParts}
use Rattle.flow_model.specs.Derived.{HasAll, IsClosed}
use Rattle.flow_model.specs.Places.{place}
use Rattle.flow_model.specs.Places as rule
use Rattle.flow_model.specs.Policy.{IsViolation, MeetsPolicy}
use Rattle.flow_model.specs.Rules.{Carries, Rules}
use Rattle.cert_check.specs.Broken.{LeadsOut}
use Rattle.cert_facts.specs.Sets.{facts_at}
use Rattle.cert_facts.specs.Shape.{FitsAt}
use Rattle.cert_check.specs.declared.verdict.Checked.{Checked}
use Rattle.cert_check.specs.declared.verdict.Checked.TheVariants.{Valid, ListDigest, DexDigest, Shape, Broken, Unmet}
use Rattle.cert_check.specs.declared.verdict.Rule.{Rule}
use Rattle.cert_check.specs.declared.verdict.Rule.TheVariants.{V1, V2, V3, V4, V5, I1, I2, I3, C1, C2, C3}

abbrev pub rule_of : Rule → rule.Rule
rule_of V1 = rule.V1
rule_of V2 = rule.V2
rule_of V3 = rule.V3
rule_of V4 = rule.V4
rule_of V5 = rule.V5
rule_of I1 = rule.I1
rule_of I2 = rule.I2
rule_of I3 = rule.I3
rule_of C1 = rule.C1
rule_of C2 = rule.C2
rule_of C3 = rule.C3

-- what an answer says of a certificate
abbrev pub Says : SubjectParts → (list : List ℕ) → (dex : List (List ℕ)) → CertParts → Checked → Type 0
Says x list dex cert Valid = Unit {0}
Says x list dex cert ListDigest = cert.list ≢ list
Says x list dex cert (DexDigest i) = slice_get cert.dex i ≢ slice_get dex i
Says x list dex cert (Shape l) = ¬ FitsAt x l (slice_get cert.locks l)
Says x list dex cert (Broken rule l a b c) = (l < slot_count x) × LeadsOut x l (facts_at cert l) (place (rule_of rule) a b c)
Says x list dex cert (Unmet c k l s) = IsViolation x (Carries x l) l (HasAll (facts_at cert l)) c k s

-- ---- the order in which answers are tried: by these numbers, the first of which decides
abbrev pub rule_number : Rule → ℕ
rule_number V1 = 0
rule_number V2 = 1
rule_number V3 = 2
rule_number V4 = 3
rule_number V5 = 4
rule_number I1 = 5
rule_number I2 = 6
rule_number I3 = 7
rule_number C1 = 8
rule_number C2 = 9
rule_number C3 = 10

abbrev pub order : Checked → List ℕ
order ListDigest = 0 ∷ []
order (DexDigest i) = 1 ∷ i ∷ []
order (Shape l) = 2 ∷ l ∷ []
order (Broken rule l a b c) = 3 ∷ l ∷ rule_number rule ∷ a ∷ b ∷ c ∷ []
order (Unmet c k l s) = 4 ∷ c ∷ k ∷ l ∷ s ∷ []
order Valid = 5 ∷ []

abbrev pub Precedes : List ℕ → List ℕ → Type 0
Precedes [] ys = ⊥
Precedes (x ∷ xs) [] = ⊥
Precedes (x ∷ xs) (y ∷ ys) = (x < y) ⊎ ((x ≡ y) × Precedes xs ys)

-- the first answer that says what is so
pub record IsVerdict (x : SubjectParts) (list : List ℕ) (dex : List (List ℕ)) (cert : CertParts) (answer : Checked) : Type 0 where
  pub says : Says x list dex cert answer
  pub first : (other : Checked) → Precedes (order other) (order answer) → ¬ Says x list dex cert other

-- ---- what a valid certificate is
pub record IsAccepted (x : SubjectParts) (list : List ℕ) (dex : List (List ℕ)) (cert : CertParts) : Type 0 where
  pub list_digest : cert.list ≡ list
  pub dex_digests : cert.dex ≡ dex
  pub shape : (l : ℕ) → FitsAt x l (slice_get cert.locks l)
  pub closed : (l : ℕ) → l < slot_count x → IsClosed (Rules x l) (facts_at cert l)
  pub policy : (l : ℕ) → l < slot_count x → MeetsPolicy x l (facts_at cert l)
