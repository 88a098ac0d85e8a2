-- The first place at which a rule leads out of the facts of a lock field.
use Rattle.std.specs.Prelude.{ℕ, ◌≡◌, ◌<◌, Bool, true, false, if◌then◌else◌, length, List, [], ◌∷◌, Option, Some, None, slice_get}
use Rattle.app_model.specs.Subject.{SubjectParts}
use Rattle.certificate.specs.Parts.{LockRows}
use Rattle.flow_model.specs.Places.{place}
use Rattle.cert_check.specs.Broken.{LeadsOut}
use Rattle.cert_facts.specs.Cases.{Case, set_of}
use Rattle.cert_facts.specs.Sets.{facts_in}
use Rattle.cert_check.specs.Verdict.{Precedes, rule_of, rule_number}
use Rattle.cert_check.specs.declared.checking.Breach.{Breach}
use Rattle.cert_check.specs.declared.places.Found.{Found}
use Rattle.cert_check.specs.declared.verdict.Rule.{Rule}
use Rattle.cert_check.specs.declared.verdict.Rule.TheVariants.{V1, V2, V3, V4, V5, I1, I2, I3, C1, C2, C3}

abbrev pub is_inside : Rule → Bool
is_inside V1 = false
is_inside V2 = false
is_inside V3 = false
is_inside V4 = false
is_inside V5 = false
is_inside I1 = true
is_inside I2 = true
is_inside I3 = true
is_inside C1 = true
is_inside C2 = true
is_inside C3 = true

-- how many methods there are, or how many components
abbrev pub place_count : Rule → Case → ℕ
place_count rule t = if is_inside rule then length t.subject.app.methods else length t.subject.list

abbrev pub IsBrokenAt : Rule → Case → (a b c : ℕ) → Type 0
IsBrokenAt rule t a b c = LeadsOut t.subject t.lock (set_of t) (place (rule_of rule) a b c)

-- with a and b, with a, and at all
abbrev pub IsFirstLast : Rule → Case → (a b : ℕ) → Option ℕ → Type 0
IsFirstLast rule t a b None = (c : ℕ) → ¬ IsBrokenAt rule t a b c
IsFirstLast rule t a b (Some c) = IsBrokenAt rule t a b c × ((d : ℕ) → d < c → ¬ IsBrokenAt rule t a b d)

abbrev pub IsFirstWith : Rule → Case → (a : ℕ) → Option Found → Type 0
IsFirstWith rule t a None = (b c : ℕ) → ¬ IsBrokenAt rule t a b c
IsFirstWith rule t a (Some f) =
    (f.a ≡ a) × IsBrokenAt rule t a f.b f.c × ((b c : ℕ) → Precedes (b ∷ c ∷ []) (f.b ∷ f.c ∷ []) → ¬ IsBrokenAt rule t a b c)

abbrev pub IsFirst : Rule → Case → Option Found → Type 0
IsFirst rule t None = (a b c : ℕ) → ¬ IsBrokenAt rule t a b c
IsFirst rule t (Some f) =
    IsBrokenAt rule t f.a f.b f.c × ((a b c : ℕ) → Precedes (a ∷ b ∷ c ∷ []) (f.a ∷ f.b ∷ f.c ∷ []) → ¬ IsBrokenAt rule t a b c)

-- ---- by any rule, and for any of the first n lock fields
abbrev pub IsFirstRule : Case → Option Breach → Type 0
IsFirstRule t None = (rule : Rule) (a b c : ℕ) → ¬ IsBrokenAt rule t a b c
IsFirstRule t (Some f) =
    (f.lock ≡ t.lock) × IsBrokenAt f.rule t f.a f.b f.c
    × ((rule : Rule) (a b c : ℕ) → Precedes (rule_number rule ∷ a ∷ b ∷ c ∷ []) (rule_number f.rule ∷ f.a ∷ f.b ∷ f.c ∷ []) → ¬ IsBrokenAt rule t a b c)

abbrev pub IsBrokenIn : SubjectParts → List LockRows → (l : ℕ) → Rule → (a b c : ℕ) → Type 0
IsBrokenIn x parts l rule a b c = LeadsOut x l (facts_in (slice_get parts l)) (place (rule_of rule) a b c)

abbrev pub IsFirstBreach : SubjectParts → List LockRows → (n : ℕ) → Option Breach → Type 0
IsFirstBreach x parts n None = (l : ℕ) (rule : Rule) (a b c : ℕ) → l < n → ¬ IsBrokenIn x parts l rule a b c
IsFirstBreach x parts n (Some f) =
    (f.lock < n) × IsBrokenIn x parts f.lock f.rule f.a f.b f.c
    × ((l : ℕ) (rule : Rule) (a b c : ℕ) → Precedes (l ∷ rule_number rule ∷ a ∷ b ∷ c ∷ []) (f.lock ∷ rule_number f.rule ∷ f.a ∷ f.b ∷ f.c ∷ []) → ¬ IsBrokenIn x parts l rule a b c)
