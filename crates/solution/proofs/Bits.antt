-- Bits of masks and of words.
use Rattle.std.proofs.Common.{◌≡◌, ℕ, ◌+◌, ◌*◌, ◌-◌, ◌/◌, ◌%◌, ◌^◌, ◌<◌, ◌≤◌, Bool, true, false, refl, sym, ap, ◌∙◌, ⊎_elim, arith, eqb, w8, add-zero}
use Rattle.std.specs.Prelude.{◌&&◌, bit_or, bit_and}
use Rattle.std.specs.Int.{bit_at, trailing_zeros, leading_zeros}
use Rattle.std.proofs.lemmas.Bool.{ltb-true, lt-ltb, eqb-true, eq-eqb, and_parts, and_from, cases_eq, cases_lt}
use Rattle.std.proofs.lemmas.Nat.{shr-shr, pow_pos, leading_length}
use Rattle.std.proofs.lemmas.Nat.Bits.{bit_at_and, bit_at-lt, bit_at-zero, bit_at_ones, bit_at_above, bit_at_cat_low, bit_at_cat_high, bit_at_set_same, bit_at_set_other, bit_at-trailing_zeros}
use Rattle.solution.proofs.Ors.{or_bit, or_left, or_right}
use Rattle.std.proofs.Math.Pow.{pow_mono}
use Rattle.std.proofs.Math.Nat.{mul-le-mul_left, mod-eq_of_lt}
use Rattle.app_model.specs.Masks.{in_mask}
use Rattle.solution.specs.Words.{has, IsMask, AreRows, IsShifted, Below, IsOne}

pub mask_true : (w s : ℕ) → in_mask w s ≡ true → (s < 8) × (bit_at w s ≡ 1)
mask_true w s h = let a = and_parts _ _ h in (ltb-true s 8 a.0, eqb-true (bit_at w s) 1 a.1)

pub mask_from : (w s : ℕ) → s < 8 → bit_at w s ≡ 1 → in_mask w s ≡ true
mask_from w s s8 h = and_from _ _ (lt-ltb s 8 s8) (eq-eqb (bit_at w s) 1 h)

pub has_true : (w e s : ℕ) → has w e s ≡ true → (e < 8) × (s < 8) × (bit_at w (8 * e + s) ≡ 1)
has_true w e s h =
    let a = and_parts _ _ h in
    let b = and_parts _ _ a.0 in
    (ltb-true e 8 b.0, ltb-true s 8 b.1, eqb-true (bit_at w (8 * e + s)) 1 a.1)

pub has_from : (w e s : ℕ) → e < 8 → s < 8 → bit_at w (8 * e + s) ≡ 1 → has w e s ≡ true
has_from w e s e8 s8 h = and_from _ _ (and_from _ _ (lt-ltb e 8 e8) (lt-ltb s 8 s8)) (eq-eqb (bit_at w (8 * e + s)) 1 h)

pub in_mask_is : (w s : ℕ) → s < 8 → in_mask w s ≡ eqb (bit_at w s) 1
in_mask_is w s s8 = ap (λ t. t && eqb (bit_at w s) 1) (lt-ltb s 8 s8)

-- no word has a bit of zero
pub none_in : (s : ℕ) → in_mask 0 s ≡ true → ⊥
none_in s h = let b = (mask_true 0 s h).1 in let n = bit_at-zero s in omega arith

pub none_has : (e s : ℕ) → has 0 e s ≡ true → ⊥
none_has e s h = let b = (has_true 0 e s h).2 in let n = bit_at-zero (8 * e + s) in omega arith

-- a row of a word
row_bit : (w e t : ℕ) → t < 8 → bit_at (bit_and (w / 2 ^ (8 * e)) 255) t ≡ bit_at w (8 * e + t)
row_bit w e t t8 =
    let h = bit_at_and (w / 2 ^ (8 * e)) 255 t in
    let one : bit_at 255 t ≡ 1 = bit_at_ones 8 t t8 in
    let low = bit_at-lt (w / 2 ^ (8 * e)) t in
    let is : bit_at (w / 2 ^ (8 * e)) t ≡ bit_at w (8 * e + t) = ap (λ n. n % 2) (shr-shr w (8 * e) t) in
    omega arith

pub same_test : (x y : Bool) → (x ≡ true → y ≡ true) → (y ≡ true → x ≡ true) → x ≡ y
same_test true y f g = sym (f refl)
same_test false true f g = g refl
same_test false false f g = refl

pub row_is : (w e t : ℕ) → e < 8 → in_mask (bit_and (w / 2 ^ (8 * e)) 255) t ≡ has w e t
row_is w e t e8 =
    same_test _ _
    (λ h. let p = mask_true _ t h in has_from w e t e8 p.0 (sym (row_bit w e t p.0) ∙ p.1))
    (λ h. let p = has_true w e t h in mask_from _ t p.1 (row_bit w e t p.1 ∙ p.2))

-- a mask as a row of a word
module _ (mask e : ℕ) (e8 : e < 8) (fits : mask < 2 ^ 8) where
  shift_high : (i : ℕ) → 8 * e ≤ i → bit_at (mask * 2 ^ (8 * e)) i ≡ bit_at mask (i - 8 * e)
  shift_high i le = ap (λ n. bit_at n i) (sym (add-zero (mask * 2 ^ (8 * e)))) ∙ bit_at_cat_high mask (8 * e) 0 i (pow_pos (8 * e)) le

  shift_low : (i : ℕ) → i < 8 * e → bit_at (mask * 2 ^ (8 * e)) i ≡ 0
  shift_low i lt = ap (λ n. bit_at n i) (sym (add-zero (mask * 2 ^ (8 * e)))) ∙ bit_at_cat_low mask (8 * e) 0 i lt ∙ bit_at-zero i

  shift_row : (d t : ℕ) → t < 8 → bit_at (mask * 2 ^ (8 * e)) (8 * d + t) ≡ 1 → (d ≡ e) × (bit_at mask t ≡ 1)
  shift_row d t t8 b =
      ⊎_elim
      (λ low. absurd (let z = shift_low (8 * d + t) low in omega arith))
      (λ high. (let z = shift_high (8 * d + t) high in ⊎_elim
      (λ is. (is, (let at : 8 * d + t - 8 * e ≡ t = omega arith in rw (z, at) at b)))
      (λ ne. absurd (let above = bit_at_above mask 8 (8 * d + t - 8 * e) fits (omega arith) in omega arith))
      (cases_eq d e)))
      (cases_lt (8 * d + t) (8 * e))

  pub shift_is : IsShifted mask e (mask * 2 ^ (8 * e))
  shift_is = record {
    there = λ t h. (let p = mask_true mask t h in let at : 8 * e + t - 8 * e ≡ t = omega arith in let le : 8 * e ≤ 8 * e + t = omega arith in has_from _ e t e8 p.0 (shift_high (8 * e + t) le ∙ ap (λ i. bit_at mask i) at ∙ p.1));
    only = λ d t h. (let p = has_true _ d t h in let o = shift_row d t p.1 p.2 in (o.0, mask_from mask t p.1 o.1));
  }

-- 255 rows at most 7 bytes up fit a word
pub shift_fits : (mask e : ℕ) → e < 8 → mask < 2 ^ 8 → IsShifted mask e (mask * 2 ^ (8 * e) % 2 ^ 64)
shift_fits mask e e8 fits =
    let high : 2 ^ (8 * e) ≤ 2 ^ 56 = pow_mono (let le : 8 * e ≤ 56 = omega arith in le) in
    let wide : mask * 2 ^ (8 * e) ≤ mask * 2 ^ 56 = mul-le-mul_left mask high in
    let less : mask * 2 ^ (8 * e) < 2 ^ 64 = omega arith in
    let is : mask * 2 ^ (8 * e) % 2 ^ 64 ≡ mask * 2 ^ (8 * e) = mod-eq_of_lt less in
    rw is (shift_is mask e e8 fits)

pub single_is : (s : ℕ) → s < 8 → IsMask (λ t. t ≡ s) (1 * 2 ^ s % 2 ^ 8)
single_is s s8 = record {
  there = λ t e. rw e (mask_from _ s s8 (bit_at_set_same w8 0 s s8));
  only = λ t h. ⊎_elim (λ is. is) (λ ne. absurd (let o : bit_at (1 * 2 ^ s % 2 ^ 8) t ≡ bit_at 0 t = bit_at_set_other w8 0 s s8 t ne in let z = bit_at-zero t in let b = (mask_true _ t h).1 in omega arith)) (cases_eq t s);
}

-- masks joined, one for each number
pub mask_none : (part : ℕ → ℕ → Type 0) → IsMask (Below part 0) 0
mask_none part = record { there = λ t x. absurd (let lt = x.1 in omega arith); only = λ t h. absurd (none_in t h) }

pub mask_more : (part : ℕ → ℕ → Type 0) (n a b : ℕ) → IsMask (Below part n) a → IsMask (part n) b → IsMask (Below part (n + 1)) (bit_or a b)
mask_more part n a b x y = record {
  there = λ t z. ⊎_elim
      (λ lt. (let m = mask_true a t (x.there t (z.0, lt, z.2)) in mask_from _ t m.0 (or_left a b t m.1)))
      (λ le. (let is : z.0 ≡ n = (let lt = z.1 in omega arith) in let m = mask_true b t (y.there t (rw is at z.2)) in mask_from _ t m.0 (or_right a b t m.1)))
      (cases_lt z.0 n);
  only = λ t h. (let m = mask_true _ t h in ⊎_elim
      (λ l. (let o = x.only t (mask_from a t m.0 l) in let lt = o.1 in (o.0, omega arith, o.2)))
      (λ r. (n, omega arith, y.only t (mask_from b t m.0 r)))
      (or_bit a b t m.1));
}

pub mask_end : (part : ℕ → ℕ → Type 0) (n a : ℕ) → ((k t : ℕ) → part k t → k < n) → IsMask (Below part n) a → IsMask (λ t. (k : ℕ) × part k t) a
mask_end part n a within x = record { there = λ t z. x.there t (z.0, within _ _ z.1, z.1); only = λ t h. (let o = x.only t h in (o.0, o.2)) }

pub mask_first : (part : ℕ → ℕ → Type 0) (n : ℕ) → ((k t : ℕ) → part k t → n ≤ k) → IsMask (Below part n) 0
mask_first part n from = record { there = λ t x. absurd (let lt = x.1 in let le = from x.0 t x.2 in omega arith); only = λ t h. absurd (none_in t h) }

-- rows joined, one for each number
pub rows_none : (part : ℕ → ℕ → Type 0) → AreRows part 0 0
rows_none part = record { there = λ k t lt x. absurd (omega arith); only = λ k t h. absurd (none_has k t h) }

pub rows_more : (part : ℕ → ℕ → Type 0) (n a mask b : ℕ) → AreRows part n a → IsMask (part n) mask → IsShifted mask n b → AreRows part (n + 1) (bit_or a b)
rows_more part n a mask b x y z = record {
  there = λ k t lt p. ⊎_elim
      (λ less. (let m = has_true a k t (x.there k t less p) in has_from _ k t m.0 m.1 (or_left a b (8 * k + t) m.2)))
      (λ le. (let is : k ≡ n = omega arith in let m = has_true b n t (z.there t (y.there t (rw is at p))) in rw is (has_from _ n t m.0 m.1 (or_right a b (8 * n + t) m.2))))
      (cases_lt k n);
  only = λ k t h. (let m = has_true _ k t h in ⊎_elim
      (λ l. x.only k t (has_from a k t m.0 m.1 l))
      (λ r. (let o = z.only k t (has_from b k t m.0 m.1 r) in rw o.0 (y.only t o.1)))
      (or_bit a b (8 * k + t) m.2));
}

-- a mask without statuses
pub mask_empty : (part : ℕ → Type 0) → ((t : ℕ) → part t → ⊥) → IsMask part 0
mask_empty part none = record { there = λ t p. absurd (none t p); only = λ t h. absurd (none_in t h) }

pub rows_first : (part : ℕ → ℕ → Type 0) (n : ℕ) → ((k t : ℕ) → part k t → n ≤ k) → AreRows part n 0
rows_first part n from = record { there = λ k t lt x. absurd (let le = from k t x in omega arith); only = λ k t h. absurd (none_has k t h) }

pub rows_last : (part : ℕ → ℕ → Type 0) (n a : ℕ) → ((k t : ℕ) → part k t → k < n) → AreRows part n a → AreRows part 8 a
rows_last part n a within x = record { there = λ k t lt p. x.there k t (within k t p) p; only = x.only }

pub rows_end : (part : ℕ → ℕ → Type 0) (n a : ℕ) → 8 ≤ n → AreRows part n a → AreRows part 8 a
rows_end part n a le x = record { there = λ k t lt p. x.there k t (omega arith) p; only = x.only }

-- a row that was read
pub mask_row : (w e r : ℕ) → ((t : ℕ) → in_mask r t ≡ has w e t) → IsMask (λ t. has w e t ≡ true) r
mask_row w e r is = record { there = λ t h. is t ∙ h; only = λ t h. sym (is t) ∙ h }

-- one status in one row
pub one_is : (e s mask word : ℕ) → e < 8 → IsMask (λ t. t ≡ s) mask → IsShifted mask e word → AreRows (IsOne e s) 8 word
one_is e s mask word e8 m z = record {
  there = λ k t lt p. rw p.0 (z.there t (m.there t p.1));
  only = λ k t h. (let o = z.only k t h in (o.0, m.only t o.1));
}

-- the ends of a mask
pub first_is : (mask s : ℕ) → mask < 2 ^ 8 → in_mask mask s ≡ true → trailing_zeros w8 mask ≤ s
first_is mask s fits h =
    let p = mask_true mask s h in
    let some : 0 < mask = ⊎_elim (λ none. absurd (none_in s (rw none at h))) (λ ne. omega arith) (cases_eq mask 0) in
    ⊎_elim (λ lt. absurd (let z = (bit_at-trailing_zeros w8 mask some fits).2 s lt in omega arith)) (λ le. le) (cases_lt s (trailing_zeros w8 mask))

pub end_is : (mask s : ℕ) → mask < 2 ^ 8 → in_mask mask s ≡ true → s < 8 - leading_zeros w8 mask
end_is mask s fits h =
    let p = mask_true mask s h in
    let len = leading_length 8 mask fits in
    ⊎_elim (λ lt. let is = len.1 in omega arith) (λ le. absurd (let z = bit_at_above mask len.0 s len.2 le in omega arith)) (cases_lt s len.0)
