-- What a binary search finds in rising numbers.
use Rattle.std.proofs.Common.{◌≡◌, ℕ, zero, suc, ◌<◌, ◌≤◌, ◌≢◌, List, [], ◌∷◌, ◌++◌, length, get_or, false, ◌==◌, Result, Ok, Err, MatchResult, refl, sym, arith, is_ok, inl, inr, ◌⊎◌}
use Rattle.std.specs.List.{list_any}
use Rattle.std.specs.List.Sorted.{IsBinarySearchResult}
use Rattle.std.specs.Ordering.{nat_cmp}
use Rattle.std.proofs.lemmas.List.Folds.{list_any_at}
use Rattle.std.proofs.lemmas.List.Sorted.{searched}
use Rattle.std.proofs.lemmas.Bool.Decides.{nat_tests, Decides-eqb}
use Rattle.dex_code.specs.Order.{IsRising, AllBelow}

any_none : (x : ℕ) (xs : List ℕ) → ((k : ℕ) → k < length xs → get_or xs k 0 ≢ x) → list_any (λ q. q == x) xs ≡ false
any_none x [] none = refl
any_none x (y ∷ ys) none =
    let ne : y ≢ x = none 0 (omega arith) in
    let here : (y == x) ≡ false = grind (arith, nat_tests) in
    let rest : list_any (λ q. q == x) ys ≡ false = any_none x ys (λ k low. none (suc k) (omega arith)) in
    rw (here, rest) refl

-- a number that is neither before nor behind a place is none of them
not_here : (n k i a x : ℕ) → (k < i → a < x) → (i ≤ k → k < n → x < a) → k < n → a ≡ x → ⊥
not_here n k i a x before behind low e = grind arith

found_in : (xs : List ℕ) (x : ℕ) (r : Result ℕ ℕ) → MatchResult r (λ i. (i < length xs) × (get_or xs i 0 ≡ x)) (λ i. (i ≤ length xs) × ((k : ℕ) → k < i → get_or xs k 0 < x) × ((k : ℕ) → i ≤ k → k < length xs → x < get_or xs k 0)) → is_ok r ≡ list_any (λ q. q == x) xs
found_in xs x (Ok i) m = sym (list_any_at (λ q. q == x) xs i 0 m.0 ((Decides-eqb _ _).1 m.1))
found_in xs x (Err i) m =
    sym (any_none x xs (λ k low e. not_here (length xs) k i (get_or xs k 0) x (m.1 k) (m.2 k) low e))

pub found : (xs : List ℕ) (x : ℕ) (r : Result ℕ ℕ) → IsBinarySearchResult (λ y. nat_cmp y x) xs r → IsRising xs → is_ok r ≡ list_any (λ q. q == x) xs
found xs x r was rising = found_in xs x r (searched xs x r was (λ i j le low. rising.each i j le low))

-- the numbers at and behind the last of them
pub get_pushed : (xs : List ℕ) (x i : ℕ) → i < length (xs ++ x ∷ []) → (get_or (xs ++ x ∷ []) i 0 ≡ get_or xs i 0) × (i < length xs) ⊎ (get_or (xs ++ x ∷ []) i 0 ≡ x) × (i ≡ length xs)
get_pushed [] x zero low = inr (refl, refl)
get_pushed [] x (suc i) low = absurd (omega arith)
get_pushed (y ∷ ys) x zero low = inl (refl, omega arith)
get_pushed (y ∷ ys) x (suc i) low =
    elim (get_pushed ys x i (omega arith)) [
      | inl h ↦ inl (h.0, omega arith)
      | inr h ↦ inr (h.0, omega (arith, h.1))
    ]

pub below_all_more : (xs ys : List ℕ) (x n : ℕ) → ys ≡ xs ++ x ∷ [] → AllBelow xs x → x ≤ n → AllBelow ys n
below_all_more xs ys x n e below le = rw e (λ i low.
    elim (get_pushed xs x i low) [
      | inl h ↦ let b : get_or xs i 0 ≤ x = below i h.1 in omega (arith, h.0, b)
      | inr h ↦ omega (arith, h.0)
    ])

pub rising_more : (xs ys : List ℕ) (x : ℕ) → ys ≡ xs ++ x ∷ [] → IsRising xs → AllBelow xs x → IsRising ys
rising_more xs ys x e rising below = rw e (record {
  each = λ i j le low.
      elim (get_pushed xs x j low) [
        | inl h ↦ elim (get_pushed xs x i (omega arith)) [
          | inl g ↦ let r : get_or xs i 0 ≤ get_or xs j 0 = rising.each i j le h.1 in omega (arith, h.0, g.0, r)
          | inr g ↦ absurd (omega (arith, h.1, g.1))
        ]
        | inr h ↦ elim (get_pushed xs x i (omega arith)) [
          | inl g ↦ let b : get_or xs i 0 ≤ x = below i g.1 in omega (arith, h.0, g.0, b)
          | inr g ↦ omega (arith, h.0, g.0)
        ]
      ];
})
