-- The parts of all lock fields.
use Rattle.std.proofs.Common.{◌≡◌, ◌+◌, ◌<◌, ◌≤◌, ℕ, true, false, List, [], ◌∷◌, Option, Some, None, length, sym, ◌∙◌, subst, ⊎_elim, inl, inr, arith}
use Rattle.std.specs.Prelude.{◌⊎◌, ◌&&◌, ◌==◌, nat_lt, slice_get}
use Rattle.std.proofs.lemmas.Bool.{cases_lt, cases_eq, cases_Bool, cond-true, cond-false, or_cases, or_parts, and_parts, and_from, ltb-true, ltb-false, lt-ltb, eqb-true, eq-eqb, true≢false}
use Rattle.std.proofs.lemmas.Option.{slice_get_past}
use Rattle.app_model.specs.Subject.{SubjectParts, IsSubject, slot_count}
use Rattle.certificate.specs.Parts.{LockRows}
use Rattle.flow_model.specs.Derived.{HasAll}
use Rattle.flow_model.specs.Policy.{IsViolation}
use Rattle.flow_model.specs.Rules.{Carries}
use Rattle.flow_model.specs.declared.policy.Violation.{Violation}
use Rattle.cert_facts.specs.Cases.{Case, IsCase}
use Rattle.cert_check.specs.Ends.{Violates, ViolatesIn, IsFirstOf, IsFirstUnmet, is_earlier, earlier}
use Rattle.cert_facts.specs.Sets.{facts_in}
use Rattle.cert_facts.specs.Shape.{FitsAt}
use Rattle.cert_check.specs.Verdict.{Precedes}

abbrev pub case_of : SubjectParts → ℕ → LockRows → Case
case_of x l part = record { subject = x; lock = l; part = part }

-- ---- a lock field has its part
pub part_within : (x : SubjectParts) (parts : List LockRows) (l : ℕ) → ((k : ℕ) → FitsAt x k (slice_get parts k)) → l < slot_count x → l < length parts
part_within x parts l fits slot = ⊎_elim (λ lt. lt) (λ past. absurd (let none : slot_count x ≤ l = subst (FitsAt x l) (slice_get_past parts l past) (fits l) in omega arith)) (cases_lt l (length parts))

pub part_case : (x : SubjectParts) (parts : List LockRows) (l : ℕ) (part : LockRows) → IsSubject x → ((k : ℕ) → FitsAt x k (slice_get parts k)) → slice_get parts l ≡ Some part → IsCase (case_of x l part)
part_case x parts l part sound fits there = record { sound = sound; fits = subst (FitsAt x l) there (fits l) }

-- ---- the earlier of two violations
-- c and k come before others
abbrev Before : (c k d j : ℕ) → Type 0
Before c k d j = (c < d) ⊎ ((c ≡ d) × (k < j))

is_before : (w v : Violation) → is_earlier w v ≡ true → Before w.component w.callback v.component v.callback
is_before w v h = ⊎_elim
    (λ lt. inl (ltb-true _ _ lt))
    (λ both. (let z = and_parts (w.component == v.component) (nat_lt w.callback v.callback) both in inr (eqb-true _ _ z.0, ltb-true _ _ z.1)))
    (or_cases (nat_lt w.component v.component) (w.component == v.component && nat_lt w.callback v.callback) h)

-- c and k do not come behind others
abbrev NotBehind : (c k d j : ℕ) → Type 0
NotBehind c k d j = (c < d) ⊎ ((c ≡ d) × (k ≤ j))

not_before : (w v : Violation) → is_earlier w v ≡ false → NotBehind v.component v.callback w.component w.callback
not_before w v h =
    let z = or_parts (nat_lt w.component v.component) (w.component == v.component && nat_lt w.callback v.callback) h in
    let le : v.component ≤ w.component = ltb-false w.component v.component z.0 in
    ⊎_elim
    (λ same. inr (sym same, ⊎_elim (λ lt. absurd (true≢false (sym (and_from _ _ (eq-eqb _ _ same) (lt-ltb _ _ lt)) ∙ z.1))) (λ ge. ge) (cases_lt w.callback v.callback)))
    (λ ne. inl (omega (arith, ne)))
    (cases_eq w.component v.component)

before_on : (c k d j e i : ℕ) → Before c k d j → NotBehind d j e i → Before c k e i
before_on c k d j e i one two = ⊎_elim
    (λ a. ⊎_elim (λ b. inl (omega arith)) (λ b. inl (let same = b.0 in omega arith)) two)
    (λ a. ⊎_elim (λ b. inl (let same = a.0 in omega arith)) (λ b. inr (a.0 ∙ b.0, (let lt = a.1 in let le = b.1 in omega arith))) two)
    one

on_before : (c k d j e i : ℕ) → NotBehind c k d j → Before d j e i → Before c k e i
on_before c k d j e i one two = ⊎_elim
    (λ a. ⊎_elim (λ b. inl (omega arith)) (λ b. inl (let same = b.0 in omega arith)) two)
    (λ a. ⊎_elim (λ b. inl (let same = a.0 in omega arith)) (λ b. inr (a.0 ∙ b.0, (let le = a.1 in let lt = b.1 in omega arith))) two)
    one

-- what comes before by four numbers does not come behind by the first two; and the other way round
first_two : (c k l s d j m r : ℕ) → Precedes (c ∷ k ∷ l ∷ s ∷ []) (d ∷ j ∷ m ∷ r ∷ []) → NotBehind c k d j
first_two c k l s d j m r before = ⊎_elim inl (λ a. inr (a.0, ⊎_elim (λ lt. omega arith) (λ b. (let same = b.0 in omega arith)) a.1)) before

first_two_apart : (c k l s d j m r : ℕ) → m < l → Precedes (c ∷ k ∷ l ∷ s ∷ []) (d ∷ j ∷ m ∷ r ∷ []) → Before c k d j
first_two_apart c k l s d j m r less before = ⊎_elim inl (λ a. inr (a.0, ⊎_elim (λ lt. lt) (λ b. absurd (⊎_elim (λ lower. omega arith) (λ same. (let is = same.0 in omega arith)) b.1)) a.1)) before

four : (c k l s d j m r : ℕ) → Before c k d j → Precedes (c ∷ k ∷ l ∷ s ∷ []) (d ∷ j ∷ m ∷ r ∷ [])
four c k l s d j m r before = ⊎_elim inl (λ a. inr (a.0, inl a.1)) before

three : (c k s d j r : ℕ) → Before c k d j → Precedes (c ∷ k ∷ s ∷ []) (d ∷ j ∷ r ∷ [])
three c k s d j r before = ⊎_elim inl (λ a. inr (a.0, inl a.1)) before

-- without the lock field, which is the same
without_lock : (c k l s d j m r : ℕ) → l ≡ m → Precedes (c ∷ k ∷ l ∷ s ∷ []) (d ∷ j ∷ m ∷ r ∷ []) → Precedes (c ∷ k ∷ s ∷ []) (d ∷ j ∷ r ∷ [])
without_lock c k l s d j m r same before = ⊎_elim inl (λ a. inr (a.0, ⊎_elim inl (λ b. inr (b.0, ⊎_elim (λ lower. absurd (omega arith)) (λ e. e.1) b.1)) a.1)) before

module _ (x : SubjectParts) (parts : List LockRows) (n : ℕ) (part : LockRows) (there : slice_get parts n ≡ Some part) where
  of_part : (c k s : ℕ) → ViolatesIn x parts c k n s → Violates (case_of x n part) c k s
  of_part c k s v = subst (λ (o : Option LockRows). IsViolation x (Carries x n) n (HasAll (facts_in o)) c k s) there v

  in_parts : (c k s l : ℕ) → l ≡ n → Violates (case_of x n part) c k s → ViolatesIn x parts c k l s
  in_parts c k s l same v = rw same (subst (λ (o : Option LockRows). IsViolation x (Carries x n) n (HasAll (facts_in o)) c k s) (sym there) v)

  -- the second is the first one, where the first does not come before it
  second_first : (w : Violation) → IsFirstOf (case_of x n part) (Some w) → ((c k l s : ℕ) → l < n → Precedes (c ∷ k ∷ l ∷ s ∷ []) (w.component ∷ w.callback ∷ w.lock ∷ w.status ∷ []) → ViolatesIn x parts c k l s → ⊥) → IsFirstUnmet x parts (n + 1) (Some w)
  second_first w two below = (
    (let at = two.0 in omega arith),
    in_parts w.component w.callback w.status w.lock two.0 two.1,
    (λ c k l s lt before v. ⊎_elim
        (λ less. below c k l s less before v)
        (λ from. (let same : l ≡ n = omega arith in two.2 c k s (without_lock c k l s w.component w.callback w.lock w.status (same ∙ sym two.0) before) (of_part c k s (rw same at v))))
        (cases_lt l n)),
  )

  -- the first stays, where no violation of the lock field comes before it
  first_stays : (v : Violation) → IsFirstUnmet x parts n (Some v) → ((c k s : ℕ) → Precedes (c ∷ k ∷ n ∷ s ∷ []) (v.component ∷ v.callback ∷ v.lock ∷ v.status ∷ []) → Violates (case_of x n part) c k s → ⊥) → IsFirstUnmet x parts (n + 1) (Some v)
  first_stays v one none = (
    (let low = one.0 in omega arith),
    one.1,
    (λ c k l s lt before b. ⊎_elim
        (λ less. one.2 c k l s less before b)
        (λ from. (let same : l ≡ n = omega arith in none c k s (rw same at before) (of_part c k s (rw same at b))))
        (cases_lt l n)),
  )

  pub unmet_more : (first second : Option Violation) → IsFirstUnmet x parts n first → IsFirstOf (case_of x n part) second → IsFirstUnmet x parts (n + 1) (earlier first second)
  unmet_more None None one two = λ c k l s lt v. ⊎_elim
      (λ less. one c k l s less v)
      (λ from. (let same : l ≡ n = omega arith in two c k s (of_part c k s (rw same at v))))
      (cases_lt l n)
  unmet_more None (Some w) one two = second_first w two (λ c k l s less before v. one c k l s less v)
  unmet_more (Some v) None one two = first_stays v one (λ c k s before b. two c k s b)
  unmet_more (Some v) (Some w) one two = ⊎_elim
      (λ yes. subst (IsFirstUnmet x parts (n + 1)) (sym (cond-true (is_earlier w v) (Some w) (Some v) yes)) (second_first w two (λ c k l s less before b.
      one.2 c k l s less (four c k l s v.component v.callback v.lock v.status (on_before c k w.component w.callback v.component v.callback (first_two c k l s w.component w.callback w.lock w.status before) (is_before w v yes))) b)))
      (λ off. subst (IsFirstUnmet x parts (n + 1)) (sym (cond-false (is_earlier w v) (Some w) (Some v) off)) (first_stays v one (λ c k s before b.
      two.2 c k s (three c k s w.component w.callback w.status (before_on c k v.component v.callback w.component w.callback (first_two_apart c k n s v.component v.callback v.lock v.status one.0 before) (not_before w v off))) b)))
      (cases_Bool (is_earlier w v))
