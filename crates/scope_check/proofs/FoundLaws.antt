-- Broken rules in order.
use Rattle.std.proofs.Common.{◌≡◌, ℕ, ◌<◌, ◌≤◌, ◌==◌, Bool, true, false, if◌then◌else◌, List, length, get_or, refl, sym, ap, ◌∙◌, ⊎_elim, inl, inr, arith, nat_le, nat_lt, Option, Some, None, eqb-true, eq-eqb}
use Rattle.std.specs.Prelude.{◌⊎◌}
use Rattle.std.proofs.lemmas.Bool.{cases_eq, cases_lt, le-leb, leb-true, lt-ltb, ltb-true, true≢false}
use Rattle.std.proofs.lemmas.Option.{slice_get_within, get_or_from_slice_get, slice_get-get_or}
use Rattle.ns_base.specs.declared.rows.MethodNo.{MethodNo}
use Rattle.scope_check.specs.declared.found.Found.{Found}
use Rattle.scope_check.specs.Founds.{Covers, IsNotAfter, Keeps, IsLowest, comes_before, earlier}

abbrev NotAfter : Found → Found → Type 0
NotAfter a b = IsNotAfter a.rule a.method.0 a.pc b.rule b.method.0 b.pc

-- by pc, where rule and method are the same, and so on
pcs_said : (a b : ℕ) → nat_le a b ≡ false → nat_le b a ≡ true
pcs_said a b is = le-leb b a (⊎_elim (λ lt. omega (arith, lt)) (λ le. absurd (true≢false (sym (le-leb a b le) ∙ is))) (cases_lt b a))

before_said : (a b : Found) → comes_before a b ≡ true → NotAfter a b
before_said a b is = go (a.rule == b.rule) refl is
  where
    in_rule : a.rule ≡ b.rule → (e : Bool) → (a.method.0 == b.method.0) ≡ e → (if e then nat_le a.pc b.pc else nat_lt a.method.0 b.method.0) ≡ true → NotAfter a b
    in_rule rule true same holds = inr (rule, inr (eqb-true _ _ same, holds))
    in_rule rule false other holds = inr (rule, inl (ltb-true _ _ holds))

    go : (e : Bool) → (a.rule == b.rule) ≡ e → (if e then (if a.method.0 == b.method.0 then nat_le a.pc b.pc else nat_lt a.method.0 b.method.0) else nat_lt a.rule b.rule) ≡ true → NotAfter a b
    go true same holds = in_rule (eqb-true _ _ same) (a.method.0 == b.method.0) refl holds
    go false other holds = inl (ltb-true _ _ holds)

less_if_not : (a b : ℕ) → (a == b) ≡ false → nat_lt a b ≡ false → b < a
less_if_not a b other fails = ⊎_elim (λ lt. lt) (λ le. ⊎_elim (λ same. absurd (true≢false (sym (eq-eqb a b same) ∙ other))) (λ ne. absurd (true≢false (sym (lt-ltb a b (omega (arith, le, ne))) ∙ fails))) (cases_eq a b)) (cases_lt b a)

after_said : (a b : Found) → comes_before a b ≡ false → NotAfter b a
after_said a b is = go (a.rule == b.rule) refl is
  where
    in_rule : a.rule ≡ b.rule → (e : Bool) → (a.method.0 == b.method.0) ≡ e → (if e then nat_le a.pc b.pc else nat_lt a.method.0 b.method.0) ≡ false → NotAfter b a
    in_rule rule true same fails = inr (sym rule, inr (sym (eqb-true _ _ same), pcs_said a.pc b.pc fails))
    in_rule rule false other fails = inr (sym rule, inl (less_if_not a.method.0 b.method.0 other fails))

    go : (e : Bool) → (a.rule == b.rule) ≡ e → (if e then (if a.method.0 == b.method.0 then nat_le a.pc b.pc else nat_lt a.method.0 b.method.0) else nat_lt a.rule b.rule) ≡ false → NotAfter b a
    go true same fails = in_rule (eqb-true _ _ same) (a.method.0 == b.method.0) refl fails
    go false other fails = inl (less_if_not a.rule b.rule other fails)

pub not_after_on : (a m c r n p s o q : ℕ) → IsNotAfter a m c r n p → IsNotAfter r n p s o q → IsNotAfter a m c s o q
not_after_on a m c r n p s o q first second = ⊎_elim
    (λ lt. ⊎_elim (λ more. inl (omega (arith, lt, more))) (λ same. inl (omega (arith, lt, same.0))) second)
    (λ same. ⊎_elim (λ more. inl (omega (arith, same.0, more))) (λ again. inr (same.0 ∙ again.0, methods same.1 again.1)) second)
    first
  where
    methods : (m < n) ⊎ ((m ≡ n) × (nat_le c p ≡ true)) → (n < o) ⊎ ((n ≡ o) × (nat_le p q ≡ true)) → (m < o) ⊎ ((m ≡ o) × (nat_le c q ≡ true))
    methods one two = ⊎_elim
        (λ lt. ⊎_elim (λ more. inl (omega (arith, lt, more))) (λ same. inl (omega (arith, lt, same.0))) two)
        (λ same. ⊎_elim (λ more. inl (omega (arith, same.0, more))) (λ again. inr (same.0 ∙ again.0, le-leb c q (let x = leb-true c p same.1 in let y = leb-true p q again.1 in omega (arith, x, y)))) two)
        one

same_place : (a b m pc : ℕ) → a ≤ b → IsNotAfter a m pc b m pc
same_place a b m pc le = ⊎_elim (λ lt. inl lt) (λ ge. inr (omega (arith, le, ge), inr (refl, le-leb pc pc (omega arith)))) (cases_lt a b)

-- ---- the earlier of two
earlier_first : (kept : Option Found) (found : Found) → NotAfter (earlier kept found) found
earlier_first None found = same_place found.rule found.rule found.method.0 found.pc (omega arith)
earlier_first (Some first) found = go (comes_before first found) refl
  where
    go : (b : Bool) → comes_before first found ≡ b → NotAfter (if b then first else found) found
    go true is = before_said first found is
    go false is = same_place found.rule found.rule found.method.0 found.pc (omega arith)

earlier_on : (kept : Option Found) (found : Found) (r n p : ℕ) → Covers kept r n p → Covers (Some (earlier kept found)) r n p
earlier_on None found r n p covers = absurd covers
earlier_on (Some first) found r n p covers = go (comes_before first found) refl
  where
    go : (b : Bool) → comes_before first found ≡ b → Covers (Some (if b then first else found)) r n p
    go true is = covers
    go false is = not_after_on found.rule found.method.0 found.pc first.rule first.method.0 first.pc r n p (after_said first found is) covers

earlier_from : (kept : Option Found) (found : Found) → (◌≡◌ {A = Option Found} (Some (earlier kept found)) kept) ⊎ (earlier kept found ≡ found)
earlier_from None found = inr refl
earlier_from (Some first) found = go (comes_before first found)
  where
    go : (b : Bool) → (◌≡◌ {A = Option Found} (Some (if b then first else found)) (Some first)) ⊎ ((if b then first else found) ≡ found)
    go true = inl refl
    go false = inr refl

-- ---- what is kept
pub keep_some : (tests : List Bool) (m : MethodNo) (pc rule : ℕ) (kept : Option Found) → IsLowest tests (Some rule) → Keeps tests m.0 pc kept (Some (earlier kept (record { rule = rule; method = m; pc = pc })))
keep_some tests m pc rule kept is = let found : Found = record { rule = rule; method = m; pc = pc } in record {
  from = ⊎_elim inl (λ here. inr (rule, is.0, (found, ap Some here, refl, refl, refl))) (earlier_from kept found);
  on = earlier_on kept found;
  covers = λ r passed. not_after_on (earlier kept found).rule (earlier kept found).method.0 (earlier kept found).pc rule m.0 pc r m.0 pc (earlier_first kept found) (same_place rule r m.0 pc (is.1 r passed));
}

pub keep_none : (tests : List Bool) (m pc : ℕ) (kept : Option Found) → IsLowest tests None → Keeps tests m pc kept kept
keep_none tests m pc kept none = record {
  from = inl refl;
  on = λ r n p covers. covers;
  covers = λ r passed. absurd (none r passed);
}

-- the first test that is passed
pub lowest_some : (tests : List Bool) (i : ℕ) → i < length tests → ((k : ℕ) → k < i → get_or tests k false ≡ false) → get_or tests i false ≡ true → IsLowest tests (Some i)
lowest_some tests i low before is = (slice_get-get_or tests i false low ∙ ap Some is, λ r passed. ⊎_elim (λ lt. absurd (true≢false (sym (get_or_from_slice_get tests r true false passed) ∙ before r lt))) (λ le. le) (cases_lt r i))

pub lowest_none : (tests : List Bool) (i : ℕ) → length tests ≤ i → ((k : ℕ) → k < i → get_or tests k false ≡ false) → IsLowest tests None
lowest_none tests i whole before = λ r passed. (let low = slice_get_within tests r true passed in true≢false (sym (get_or_from_slice_get tests r true false passed) ∙ before r (omega (arith, low, whole))))
