-- The first place by any rule, and for any lock field.
use Rattle.std.proofs.Common.{◌≡◌, ◌+◌, ◌<◌, ◌≤◌, ℕ, suc, Bool, true, false, List, [], ◌∷◌, Option, Some, None, length, refl, sym, ap, ◌∙◌, subst, ⊎_elim, arith}
use Rattle.std.specs.Prelude.{◌↔◌, IsTrue, is_some, nat_le, slice_get, slice_index_or}
use Rattle.std.proofs.lemmas.Bool.{cases_lt, leb-true, le-leb, false≢true, true≢false}
use Rattle.std.proofs.lemmas.Option.{slice_get_past, slice_get-get_or}
use Rattle.app_model.specs.Subject.{SubjectParts}
use Rattle.certificate.specs.Parts.{LockRows}
use Rattle.flow_model.specs.Places.{place}
use Rattle.cert_check.specs.Broken.{LeadsOut}
use Rattle.cert_facts.specs.Cases.{Case}
use Rattle.cert_check.specs.Firsts.{IsBrokenAt, IsFirst, IsFirstRule, IsFirstBreach, IsBrokenIn}
use Rattle.cert_facts.specs.Sets.{facts_in}
use Rattle.cert_check.specs.Verdict.{rule_number, rule_of}
use Rattle.cert_check.specs.declared.checking.Breach.{Breach}
use Rattle.cert_check.specs.declared.places.Found.{Found}
use Rattle.cert_check.specs.declared.verdict.Rule.{Rule}
use Rattle.cert_check.specs.declared.verdict.Rule.TheVariants.{V1, V2, V3, V4, V5, I1, I2, I3, C1, C2, C3}
use Rattle.cert_check.proofs.Locks.{case_of}

-- ---- rules by their numbers
abbrev numbered : ℕ → Rule
numbered n = slice_index_or (V1 ∷ V2 ∷ V3 ∷ V4 ∷ V5 ∷ I1 ∷ I2 ∷ I3 ∷ C1 ∷ C2 ∷ C3 ∷ []) n V1

numbered_low : (rule : Rule) → (numbered (rule_number rule) ≡ rule) × (rule_number rule < 11)
numbered_low V1 = (refl, omega arith)
numbered_low V2 = (refl, omega arith)
numbered_low V3 = (refl, omega arith)
numbered_low V4 = (refl, omega arith)
numbered_low V5 = (refl, omega arith)
numbered_low I1 = (refl, omega arith)
numbered_low I2 = (refl, omega arith)
numbered_low I3 = (refl, omega arith)
numbered_low C1 = (refl, omega arith)
numbered_low C2 = (refl, omega arith)
numbered_low C3 = (refl, omega arith)

pub same_rule : (r q : Rule) → rule_number r ≡ rule_number q → r ≡ q
same_rule r q is = sym (numbered_low r).0 ∙ ap numbered is ∙ (numbered_low q).0

-- ---- a rule after another
module _ (t : Case) where
  abbrev pub NoneRule : ℕ → Type 0
  NoneRule n = (rule : Rule) (a b c : ℕ) → rule_number rule < n → IsBrokenAt rule t a b c → ⊥

  pub rule_start : NoneRule 0
  rule_start = λ rule a b c lt broken. absurd (omega arith)

  pub rule_more : (n : ℕ) (rule : Rule) → NoneRule n → rule_number rule ≡ n → IsFirst rule t None → NoneRule (n + 1)
  rule_more n rule none is first = λ other a b c lt broken. ⊎_elim
      (λ below. none other a b c below broken)
      (λ from. (let same : other ≡ rule = same_rule other rule (omega arith) in first a b c (rw same at broken)))
      (cases_lt (rule_number other) n)

  pub rule_some : (n lock : ℕ) (rule : Rule) (f : Found) → NoneRule n → rule_number rule ≡ n → lock ≡ t.lock → IsFirst rule t (Some f) → IsFirstRule t (Some (record { lock = lock; rule = rule; a = f.a; b = f.b; c = f.c }))
  rule_some n lock rule f none is at first = (
    at,
    first.0,
    (λ other a b c before broken. ⊎_elim
        (λ lt. none other a b c (rw is at lt) broken)
        (λ z. (let same : other ≡ rule = same_rule other rule z.0 in first.1 a b c z.1 (rw same at broken)))
        before),
  )

  pub rule_none : (n : ℕ) → 11 ≤ n → NoneRule n → IsFirstRule t None
  rule_none n le none = λ rule a b c broken. none rule a b c (let low = (numbered_low rule).1 in omega arith) broken

-- ---- a lock field after another
module _ (x : SubjectParts) (parts : List LockRows) (n : ℕ) (part : LockRows) (there : slice_get parts n ≡ Some part) where
  of_part : (rule : Rule) (a b c : ℕ) → IsBrokenIn x parts n rule a b c → IsBrokenAt rule (case_of x n part) a b c
  of_part rule a b c broken = subst (λ (o : Option LockRows). LeadsOut x n (facts_in o) (place (rule_of rule) a b c)) there broken

  in_parts : (rule : Rule) (a b c l : ℕ) → l ≡ n → IsBrokenAt rule (case_of x n part) a b c → IsBrokenIn x parts l rule a b c
  in_parts rule a b c l same broken = rw same (subst (λ (o : Option LockRows). LeadsOut x n (facts_in o) (place (rule_of rule) a b c)) (sym there) broken)

  pub lock_more : (o : Option Breach) → IsFirstBreach x parts n None → IsFirstRule (case_of x n part) o → is_some o ≡ false → IsFirstBreach x parts (n + 1) None
  lock_more (Some f) none first off = absurd (true≢false off)
  lock_more None none first off = λ l rule a b c lt broken. ⊎_elim
      (λ below. none l rule a b c below broken)
      (λ from. (let same : l ≡ n = omega arith in first rule a b c (of_part rule a b c (rw same at broken))))
      (cases_lt l n)

  pub lock_some : (count : ℕ) (o : Option Breach) → n < count → IsFirstBreach x parts n None → IsFirstRule (case_of x n part) o → is_some o ≡ true → IsFirstBreach x parts count o
  lock_some count None low none first on = absurd (false≢true on)
  lock_some count (Some f) low none first on = (
    (let at = first.0 in omega arith),
    in_parts f.rule f.a f.b f.c f.lock first.0 first.1,
    (λ l rule a b c before broken. ⊎_elim
        (λ lt. none l rule a b c (let at = first.0 in omega arith) broken)
        (λ z. (let same : l ≡ n = z.0 ∙ first.0 in first.2 rule a b c z.1 (of_part rule a b c (rw same at broken))))
        before),
  )

-- ---- digests
pub both_past : (own dex : List (List ℕ)) (i : ℕ) → length own ≤ i → IsTrue (nat_le (length dex) i) ↔ (slice_get own i ≡ slice_get dex i)
both_past own dex i past = (
  (λ h. slice_get_past own i past ∙ sym (slice_get_past dex i (leb-true (length dex) i h))),
  (λ same. ⊎_elim
      (λ lt. absurd (let none = slice_get_past own i past in let some = slice_get-get_or dex i [] lt in cc))
      (λ le. le-leb (length dex) i le)
      (cases_lt i (length dex))),
)

pub one_past : (own dex : List (List ℕ)) (i : ℕ) → i < length own → length dex ≤ i → IsTrue false ↔ (slice_get own i ≡ slice_get dex i)
one_past own dex i within past = ((λ h. absurd (false≢true h)), (λ same. absurd (let some = slice_get-get_or own i [] within in let none = slice_get_past dex i past in cc)))

pub both_there : (own dex : List (List ℕ)) (i : ℕ) (b : Bool) → i < length own → i < length dex → (IsTrue b ↔ (slice_index_or own i [] ≡ slice_index_or dex i [])) → IsTrue b ↔ (slice_get own i ≡ slice_get dex i)
both_there own dex i b one two test =
    let a = slice_get-get_or own i [] one in
    let d = slice_get-get_or dex i [] two in
    ((λ h. a ∙ ap Some (test.0 h) ∙ sym d), (λ same. test.1 (let eq : slice_index_or own i [] ≡ slice_index_or dex i [] = cc in eq)))

pub same_lists : {A : Type 0} (xs ys : List A) → ((k : ℕ) → slice_get xs k ≡ slice_get ys k) → xs ≡ ys
same_lists [] [] same = refl
same_lists [] (y ∷ ys) same = absurd (let first = same 0 in cc)
same_lists (x ∷ xs) [] same = absurd (let first = same 0 in cc)
same_lists (x ∷ xs) (y ∷ ys) same =
    let first : x ≡ y = (let at = same 0 in cc) in
    let rest : xs ≡ ys = same_lists xs ys (λ k. same (suc k)) in
    rw (first, rest) refl

pub digests_same : (own dex : List (List ℕ)) (n : ℕ) → length dex ≤ 16 → 17 ≤ n → ((k : ℕ) → k < n → slice_get own k ≡ slice_get dex k) → own ≡ dex
digests_same own dex n few le same = same_lists own dex (λ k. ⊎_elim
    (λ lt. same k lt)
    (λ from. (let last : length own ≤ 16 = ⊎_elim (λ lt. absurd (let some = slice_get-get_or own 16 [] lt in let none = slice_get_past dex 16 few in let eq = same 16 (omega arith) in cc)) (λ le. le) (cases_lt 16 (length own)) in
    slice_get_past own k (omega arith) ∙ sym (slice_get_past dex k (omega arith))))
    (cases_lt k n))
