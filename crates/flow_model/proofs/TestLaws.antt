-- What follows where a test holds: `&&`, `||`, tests of numbers, some number below n. Past its end a list has nothing.
use Rattle.std.proofs.Common.{◌≡◌, ◌⊎◌, ℕ, zero, suc, ◌<◌, ◌≤◌, ◌+◌, ◌&&◌, ◌||◌, ◌==◌, nat_lt, Bool, true, false, List, ◌∷◌, [], Option, Some, None, slice_get, refl, sym, subst, inl, inr, ⊎_elim, true≢false, arith, length, eq-or-lt_of_le, le_of_suc-le-suc, not-suc-le-zero, add-one}
use Rattle.std.proofs.lemmas.Bool.Decides.{nat_tests}
use Rattle.app_model.specs.Masks.{in_mask, any_below}

pub both : (a b : Bool) → (a && b) ≡ true → (a ≡ true) × (b ≡ true)
both true b h = (refl, h)
both false b h = absurd (true≢false (sym h))

pub and_join : (a b : Bool) → a ≡ true → b ≡ true → (a && b) ≡ true
and_join true b h k = k
and_join false b h k = h

pub bool_same : (a b : Bool) → (a ≡ true → b ≡ true) → (b ≡ true → a ≡ true) → a ≡ b
bool_same true b f g = sym (f refl)
bool_same false true f g = g refl
bool_same false false f g = refl

pub either : (a b : Bool) → (a || b) ≡ true → (a ≡ true) ⊎ (b ≡ true)
either true b h = inl refl
either false b h = inr h

or_right : (a b : Bool) → b ≡ true → (a || b) ≡ true
or_right true b h = refl
or_right false b h = h

or_left : (a b : Bool) → a ≡ true → (a || b) ≡ true
or_left true b h = refl
or_left false b h = absurd (true≢false (sym h))

pub same_number : (m n : ℕ) → (m == n) ≡ true → m ≡ n
same_number m n h = grind (arith, nat_tests)

pub number_same : (m : ℕ) → (m == m) ≡ true
number_same m = grind (arith, nat_tests)

pub is_below : (m n : ℕ) → nat_lt m n ≡ true → m < n
is_below m n h = grind (arith, nat_tests)

pub below_is : (m n : ℕ) → m < n → nat_lt m n ≡ true
below_is m n h = grind (arith, nat_tests)

pub in_mask_below : (mask s : ℕ) → in_mask mask s ≡ true → s < 8
in_mask_below mask s h = is_below s 8 (both _ _ h).0

-- some number below n passes the test
pub some_below : (f : ℕ → Bool) (n : ℕ) → any_below f n ≡ true → (k : ℕ) × (k < n) × (f k ≡ true)
some_below f zero h = absurd (true≢false (sym h))
some_below f (suc n) h =
    ⊎_elim (λ a. (n, omega arith, a)) (λ b. let r = some_below f n b in (r.0, omega arith, r.2)) (either (f n) (any_below f n) h)

pub below_some : (f : ℕ → Bool) (n k : ℕ) → k < n → f k ≡ true → any_below f n ≡ true
below_some f zero k l h = absurd (omega arith)
below_some f (suc n) k l h =
    ⊎_elim (λ (eq : k ≡ n). or_left (f n) _ (subst (λ z. f z ≡ true) eq h))
    (λ (lt : k < n). or_right (f n) _ (below_some f n k lt h))
    (eq-or-lt_of_le (le_of_suc-le-suc l))

-- past the end of a list there is nothing
pub none_after : {A : Type 0} (xs : List A) (i k : ℕ) → slice_get xs i ≡ None → i ≤ k → slice_get xs k ≡ None
none_after [] i k h l = refl
none_after (x ∷ xs) zero k h l = absurd (some_none h)
  where
    some_none : Some x ≡ None → ⊥
    some_none p = cc
none_after (x ∷ xs) (suc i) zero h l = absurd (omega arith)
none_after (x ∷ xs) (suc i) (suc k) h l = none_after xs i k h (omega arith)

pub none_past : {A : Type 0} (xs : List A) (i : ℕ) → length xs ≤ i → slice_get xs i ≡ None
none_past [] i l = refl
none_past (x ∷ xs) zero l = absurd (not-suc-le-zero l)
none_past (x ∷ xs) (suc i) l = none_past xs i (le_of_suc-le-suc l)

pub none_some : {A : Type 0} (x : A) (o : Option A) → o ≡ None → o ≡ Some x → ⊥
none_some x None p q = cc
none_some x (Some y) p q = cc

-- one number more
pub any_below_next : (f : ℕ → Bool) (n : ℕ) → any_below f (n + 1) ≡ (f n || any_below f n)
any_below_next f n = rw (add-one n) refl

pub none_below_next : (f : ℕ → Bool) (n : ℕ) → any_below f n ≡ false → f n ≡ false → any_below f (n + 1) ≡ false
none_below_next f n h k = rw (any_below_next f n, k, h) refl
