-- A list of numbers that rises is told by what it has.
use Rattle.std.proofs.Common.{◌≡◌, ℕ, zero, suc, ◌+◌, ◌<◌, ◌≤◌, Bool, true, false, List, [], ◌∷◌, length, refl, ap₂, arith, ⊎_elim, get_or, Contains}
use Rattle.std.specs.Prelude.{◌↔◌}
use Rattle.std.specs.List.{filter, range_with_len}
use Rattle.std.specs.List.Sorted.{IsStrictlyIncreasing}
use Rattle.call_targets.proofs.Members.{cons_cases, from_filter, in_filter, in_first, in_range, in_rest}

-- numbers from lo on, rising
abbrev Up : (lo : ℕ) → List ℕ → Type 0
Up lo [] = Unit {0}
Up lo (x ∷ xs) = (lo ≤ x) × Up (x + 1) xs

low : (lo : ℕ) (xs : List ℕ) (n : ℕ) → Up lo xs → Contains xs n → lo ≤ n
low lo [] n up c = absurd (omega (arith, c.1))
low lo (x ∷ xs) n up c = ⊎_elim (λ e. omega (arith, up.0, e)) (λ r. omega (arith, up.0, low (x + 1) xs n up.1 r)) (cons_cases x xs n c)

same_up : (lo : ℕ) (xs ys : List ℕ) → Up lo xs → Up lo ys → ((n : ℕ) → Contains xs n ↔ Contains ys n) → xs ≡ ys
same_up lo [] [] ux uy h = refl
same_up lo [] (y ∷ ys) ux uy h = absurd (omega (arith, ((h y).1 (in_first y ys)).1))
same_up lo (x ∷ xs) [] ux uy h = absurd (omega (arith, ((h x).0 (in_first x xs)).1))
same_up lo (x ∷ xs) (y ∷ ys) ux uy h =
    let e : x ≡ y = omega (arith, low y (y ∷ ys) x (omega arith, uy.1) ((h x).0 (in_first x xs)), low x (x ∷ xs) y (omega arith, ux.1) ((h y).1 (in_first y ys))) in
    ap₂ (λ (z : ℕ) (zs : List ℕ). z ∷ zs) e (same_up (x + 1) xs ys ux.1 (rw e uy.1) (λ n. (
      λ c. ⊎_elim (λ f. absurd (omega (arith, f, e, low (x + 1) xs n ux.1 c))) (λ r. r) (cons_cases y ys n ((h n).0 (in_rest x xs n c))),
      λ c. ⊎_elim (λ f. absurd (omega (arith, f, e, low (y + 1) ys n uy.1 c))) (λ r. r) (cons_cases x xs n ((h n).1 (in_rest y ys n c))),
    )))

up_less : (low lo : ℕ) (xs : List ℕ) → low ≤ lo → Up lo xs → Up low xs
up_less low lo [] le up = tt
up_less low lo (x ∷ xs) le up = (omega (arith, le, up.0), up.1)

up_filter : (p : ℕ → Bool) (n lo : ℕ) → Up lo (filter p (range_with_len lo n))
up_filter p zero lo = tt
up_filter p (suc n) lo = by (p lo) refl (up_filter p n (lo + 1))
  where
    by : (b : Bool) → p lo ≡ b → Up (lo + 1) (filter p (range_with_len (lo + 1) n)) → Up lo (filter p (range_with_len lo (suc n)))
    by true e up = rw e (omega arith, up)
    by false e up = rw e (up_less lo (lo + 1) _ (omega arith) up)

up_from : (lo : ℕ) (xs : List ℕ) → (0 < length xs → lo ≤ get_or xs 0 0) → ((k : ℕ) → suc k < length xs → get_or xs k 0 < get_or xs (suc k) 0) → Up lo xs
up_from lo [] le h = tt
up_from lo (x ∷ xs) le h = (le (omega arith), up_from (x + 1) xs (λ lt. omega (arith, h 0 (omega (arith, lt)))) (λ k lt. h (suc k) (omega (arith, lt))))

-- a list that rises is a filter of a range
pub rising_filter : (p : ℕ → Bool) (n : ℕ) (xs : List ℕ) → IsStrictlyIncreasing xs → ((k : ℕ) → Contains xs k ↔ (p k ≡ true)) → ((k : ℕ) → p k ≡ true → k < n) → xs ≡ filter p (range_with_len 0 n)
rising_filter p n xs up h below = same_up 0 xs (filter p (range_with_len 0 n)) (up_from 0 xs (λ lt. omega arith) (λ k lt. let e : suc k ≡ k + 1 = omega arith in rw e (up k (omega (arith, lt))))) (up_filter p n 0)
    (λ k. (
      λ c. let on = (h k).0 c in in_filter p (range_with_len 0 n) k (in_range n k (below k on)) on,
      λ c. (h k).1 (from_filter p (range_with_len 0 n) k c).1,
    ))
