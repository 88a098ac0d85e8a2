-- Rows in the order of their numbers rise.
use Rattle.std.proofs.Common.{◌≡◌, ℕ, zero, suc, ◌+◌, ◌<◌, ◌≤◌, Bool, true, false, cond, List, [], ◌∷◌, ◌++◌, map, refl, arith}
use Rattle.std.specs.List.{filter, flat_map, range_with_len, AllByRecursion}
use Rattle.certificate.specs.Solved.{numbers_below}
use Rattle.certificate.specs.Texts.{Rise}
use Rattle.certificate.proofs.Machine.{rise_lower}

-- ---- what holds of all rows
kept : {X : Type 0} (P : X → Type 0) (b : Bool) (x : X) (xs : List X) → (b ≡ true → P x) → AllByRecursion P xs → AllByRecursion P (cond b (x ∷ xs) xs)
kept P true x xs h all = (h refl, all)
kept P false x xs h all = all

pub all_rows : {X : Type 0} (P : X → Type 0) (p : X → Bool) (f : ℕ → X) (top : ℕ) → ((b : ℕ) → b < top → p (f b) ≡ true → P (f b)) → (n from : ℕ) → from + n ≤ top → AllByRecursion P (filter p (map f (range_with_len from n)))
all_rows P p f top h zero from le = tt
all_rows P p f top h (suc n) from le =
    kept P (p (f from)) (f from) (filter p (map f (range_with_len (from + 1) n))) (h from (omega arith)) (all_rows P p f top h n (from + 1) (omega arith))

all_append : {X : Type 0} (P : X → Type 0) (xs ys : List X) → AllByRecursion P xs → AllByRecursion P ys → AllByRecursion P (xs ++ ys)
all_append P [] ys h k = k
all_append P (x ∷ xs) ys h k = (h.0, all_append P xs ys h.1 k)

pub all_groups : {X : Type 0} (P : X → Type 0) (g : ℕ → List X) (top : ℕ) → ((a : ℕ) → a < top → AllByRecursion P (g a)) → (n from : ℕ) → from + n ≤ top → AllByRecursion P (flat_map g (range_with_len from n))
all_groups P g top h zero from le = tt
all_groups P g top h (suc n) from le =
    all_append P (g from) (flat_map g (range_with_len (from + 1) n)) (h from (omega arith)) (all_groups P g top h n (from + 1) (omega arith))

-- ---- the rows of one number, then those of the next
module _ {X : Type 0} (rank : X → ℕ) where
  abbrev pub AreUpTo : ℕ → List X → Type 0
  AreUpTo high xs = AllByRecursion (λ x. rank x ≤ high) xs

  pub up_more : (xs : List X) (low high : ℕ) → low ≤ high → AreUpTo low xs → AreUpTo high xs
  up_more [] low high le h = tt
  up_more (x ∷ xs) low high le h = let first : rank x ≤ low = h.0 in (omega arith, up_more xs low high le h.1)

  rise_kept : (b : Bool) (low : ℕ) (x : X) (xs : List X) → low < rank x → Rise rank (rank x) xs → Rise rank low (cond b (x ∷ xs) xs)
  rise_kept true low x xs lt h = (lt, h)
  rise_kept false low x xs lt h = rise_lower rank low (rank x) xs (omega arith) h

  rise_filter : (p : X → Bool) (xs : List X) (low : ℕ) → Rise rank low xs → Rise rank low (filter p xs)
  rise_filter p [] low h = tt
  rise_filter p (x ∷ xs) low h = rise_kept (p x) low x (filter p xs) h.0 (rise_filter p xs (rank x) h.1)

  rise_append : (xs ys : List X) (low high : ℕ) → low ≤ high → Rise rank low xs → AreUpTo high xs → Rise rank high ys → Rise rank low (xs ++ ys)
  rise_append [] ys low high le h up k = rise_lower rank low high ys le k
  rise_append (x ∷ xs) ys low high le h up k = (h.0, rise_append xs ys (rank x) high up.0 h.1 up.1 k)

  rise_range : (f : ℕ → X) (start : ℕ) → ((b : ℕ) → rank (f b) ≡ start + (1 + b)) → (n from low : ℕ) → low ≤ start + from → Rise rank low (map f (range_with_len from n))
  rise_range f start is zero from low le = tt
  rise_range f start is (suc n) from low le = (omega (arith, is from), rise_range f start is n (from + 1) (rank (f from)) (omega (arith, is from)))

  -- the rows of one number lie behind its start and before the next
  pub record IsGroup (start next : ℕ) (xs : List X) : Type 0 where
    pub rise : Rise rank start xs
    pub up : AreUpTo next xs
    pub le : start ≤ next

  pub group_of : (p : X → Bool) (f : ℕ → X) (start : ℕ) → ((b : ℕ) → rank (f b) ≡ start + (1 + b)) → IsGroup start (start + 8) (filter p (map f (numbers_below 8)))
  group_of p f start is = record {
    rise = rise_filter p (map f (numbers_below 8)) start (rise_range f start is 8 0 start (omega arith));
    up = all_rows (λ x. rank x ≤ start + 8) p f 8 (λ b lt _. omega (arith, is b)) 8 0 (omega arith);
    le = omega arith;
  }

  pub no_group : (start : ℕ) → IsGroup start (start + 8) []
  no_group start = record { rise = tt; up = tt; le = omega arith }

  pub rise_groups : (g : ℕ → List X) (start : ℕ → ℕ) → ((a : ℕ) → IsGroup (start a) (start (a + 1)) (g a)) → (n from : ℕ) → Rise rank (start from) (flat_map g (range_with_len from n))
  rise_groups g start are zero from = tt
  rise_groups g start are (suc n) from =
      let h = are from in
      rise_append (g from) (flat_map g (range_with_len (from + 1) n)) (start from) (start (from + 1)) h.le h.rise h.up (rise_groups g start are n (from + 1))
