-- A row of a word in each row of another that has its status: a product, whose bytes do not meet.
use Rattle.std.proofs.Common.{◌≡◌, ◌≢◌, ℕ, zero, suc, ◌+◌, ◌*◌, ◌-◌, ◌/◌, ◌%◌, ◌^◌, ◌<◌, ◌≤◌, Bool, true, false, refl, sym, ap, ◌∙◌, subst, ⊎_elim, arith, w64}
use Rattle.std.specs.Prelude.{◌&&◌, bit_or, bit_and, min, not}
use Rattle.std.specs.Int.{bit_at, bit_not}
use Rattle.std.proofs.lemmas.Bool.{and_parts, and_from, cases_eq, cases_lt}
use Rattle.std.proofs.lemmas.Nat.{shr-shr, mul-add-lt, pow-add, and_le_r}
use Rattle.std.proofs.Math.Pow.{pow-lt}
use Rattle.std.proofs.Math.Nat.{add-mul, mul_comm, mul_right_comm, mod-eq_of_lt}
use Rattle.std.proofs.lemmas.Nat.Bits.{bit_at_and, bit_at-lt, bit_at-zero, bit_at_lowest, bit_at_above, bit_at_cat_low, bit_at_cat_high, bit_at_not, bit_at-pow_same, bit_at-pow_other, same_from_bits_below}
use Rattle.app_model.specs.Masks.{in_mask}
use Rattle.solution.specs.Words.{has, AreRows, Joined, JoinedBy, JoinedBelow, Itself}
use Rattle.solution.proofs.Bits.{has_true, has_from, none_has, mask_true, mask_from, same_test}
use Rattle.solution.proofs.Ors.{or_bit, or_left, or_right}

-- ---- a number by its bytes, the lowest first
abbrev pub bytes : (ℕ → ℕ) → ℕ → ℕ
bytes f zero = 0
bytes f (suc n) = bytes (λ k. f (suc k)) n * 256 + f 0

bytes_bit : (n : ℕ) (f : ℕ → ℕ) (e t : ℕ) → ((k : ℕ) → f k < 256) → e < n → t < 8 → bit_at (bytes f n) (8 * e + t) ≡ bit_at (f e) t
bytes_bit zero f e t each lt t8 = absurd (omega arith)
bytes_bit (suc n) f zero t each lt t8 =
    let at : 8 * 0 + t ≡ t = omega arith in
    ap (λ i. bit_at (bytes f (suc n)) i) at ∙ bit_at_cat_low (bytes (λ k. f (suc k)) n) 8 (f 0) t t8
bytes_bit (suc n) f (suc e) t each lt t8 =
    let rest = bytes (λ k. f (suc k)) n in
    let at : 8 * suc e + t - 8 ≡ 8 * e + t = omega arith in
    bit_at_cat_high rest 8 (f 0) (8 * suc e + t) (each 0) (omega arith) ∙ ap (λ i. bit_at rest i) at ∙ bytes_bit n (λ k. f (suc k)) e t (λ k. each (suc k)) (omega arith) t8

bytes_fit : (n : ℕ) (f : ℕ → ℕ) → ((k : ℕ) → f k < 256) → bytes f n < 256 ^ n
bytes_fit zero f each = omega arith
bytes_fit (suc n) f each =
    let h = mul-add-lt (bytes (λ k. f (suc k)) n) 256 (f 0) (256 ^ n) (bytes_fit n (λ k. f (suc k)) (λ k. each (suc k))) (each 0) in
    let p = pow-add 256 1 n in
    omega arith

bytes_times : (n : ℕ) (f : ℕ → ℕ) (r : ℕ) → bytes f n * r ≡ bytes (λ k. f k * r) n
bytes_times zero f r = omega arith
bytes_times (suc n) f r =
    let rest = bytes (λ k. f (suc k)) n in
    add-mul (rest * 256) (f 0) r ∙ ap (λ x. x + f 0 * r) (mul_right_comm rest 256 r ∙ ap (λ x. x * 256) (bytes_times n (λ k. f (suc k)) r))

-- ---- status s of each row
abbrev pub column : ℕ → ℕ → ℕ → ℕ
column a s e = bit_at a (8 * e + s)

column_small : (a s k : ℕ) → column a s k < 2
column_small a s k = bit_at-lt a (8 * k + s)

-- a place of a word, by row and status
placed : (P : ℕ → Type 0) (i : ℕ) → P (8 * (i / 8) + i % 8) → P i
placed P i h = let is : 8 * (i / 8) + i % 8 ≡ i = omega arith in subst P is h

module _ (a s : ℕ) (s8 : s < 8) where
  abbrev pub rows : ℕ
  rows = bit_and (a / 2 ^ s) 0x0101010101010101

  rows_bit : (e t : ℕ) → e < 8 → t < 8 → bit_at rows (8 * e + t) ≡ bit_at (bytes (column a s) 8) (8 * e + t)
  rows_bit e t e8 t8 =
      let both = bit_at_and (a / 2 ^ s) 0x0101010101010101 (8 * e + t) in
      let ones : bit_at 0x0101010101010101 (8 * e + t) ≡ bit_at 1 t = bytes_bit 8 (λ k. 1) e t (λ k. omega arith) e8 t8 in
      let theirs = bytes_bit 8 (column a s) e t (λ k. let lt = column_small a s k in omega arith) e8 t8 in
      let small = column_small a s e in
      let low = bit_at-lt (a / 2 ^ s) (8 * e + t) in
      ⊎_elim
      (λ is. (let at : bit_at (a / 2 ^ s) (8 * e + t) ≡ column a s e = ap (λ n. n % 2) (shr-shr a s (8 * e + t)) ∙ ap (λ i. bit_at a i) (let z : s + (8 * e + t) ≡ 8 * e + s = omega arith in z) in
      let one : bit_at 1 t ≡ 1 = rw is refl in
      let own : bit_at (column a s e) t ≡ column a s e = rw is (bit_at_lowest (column a s e) ∙ mod-eq_of_lt small) in
      omega arith))
      (λ ne. (let one : bit_at 1 t ≡ 0 = bit_at_above 1 1 t (omega arith) (omega arith) in
      let own : bit_at (column a s e) t ≡ 0 = bit_at_above (column a s e) 1 t small (omega arith) in
      omega arith))
      (cases_eq t 0)

  rows_are : rows ≡ bytes (column a s) 8
  rows_are =
      same_from_bits_below 64 rows (bytes (column a s) 8)
      (let le = and_le_r (a / 2 ^ s) 0x0101010101010101 in omega arith)
      (bytes_fit 8 (column a s) (λ k. let lt = column_small a s k in omega arith))
      (λ i lt. placed (λ j. bit_at rows j ≡ bit_at (bytes (column a s) 8) j) i (rows_bit (i / 8) (i % 8) (omega arith) (omega arith)))

  module _ (r : ℕ) (r8 : r < 2 ^ 8) where
    each_small : (k : ℕ) → column a s k * r < 256
    each_small k = ⊎_elim (λ is. rw is (omega arith)) (λ (ne : column a s k ≢ 0). (let one : column a s k ≡ 1 = (let lt = column_small a s k in omega arith) in rw one (omega arith))) (cases_eq (column a s k) 0)

    product_is : rows * r ≡ bytes (λ k. column a s k * r) 8
    product_is = ap (λ x. x * r) rows_are ∙ bytes_times 8 (column a s) r

    product_bit : (e t : ℕ) → e < 8 → t < 8 → bit_at (rows * r) (8 * e + t) ≡ bit_at (column a s e * r) t
    product_bit e t e8 t8 = ap (λ x. bit_at x (8 * e + t)) product_is ∙ bytes_bit 8 (λ k. column a s k * r) e t each_small e8 t8

    pub spread_is : (b : ℕ) → ((t : ℕ) → in_mask r t ≡ has b s t) → AreRows (JoinedBy a b s) 8 (rows * r)
    spread_is b row = record {
      there = λ e t e8 h. (let p = has_true a e s h.0 in let q = mask_true r t (row t ∙ h.1) in
          let one : column a s e * r ≡ r = rw p.2 (omega arith) in
          has_from _ e t e8 q.0 (product_bit e t e8 q.0 ∙ ap (λ x. bit_at x t) one ∙ q.1));
      only = λ e t h. (let p = has_true _ e t h in let is = sym (product_bit e t p.0 p.1) ∙ p.2 in
          ⊎_elim
          (λ none. absurd (let zero_is : column a s e * r ≡ 0 = rw none (omega arith) in let z : bit_at 0 t ≡ 1 = rw zero_is at is in let y = bit_at-zero t in omega arith))
          (λ (ne : column a s e ≢ 0). (let c : column a s e ≡ 1 = (let lt = column_small a s e in omega arith) in
          let one : column a s e * r ≡ r = rw c (omega arith) in
          (has_from a e s p.0 s8 c, sym (row t) ∙ mask_from r t p.1 (rw one at is))))
          (cases_eq (column a s e) 0));
    }

-- ---- a mask in each row, and of each row its own status
module _ (mask : ℕ) (fits : mask < 2 ^ 8) where
  own_bit : (e t : ℕ) → e < 8 → t < 8 → bit_at (bit_and (mask * 0x0101010101010101) 0x8040201008040201) (8 * e + t) ≡ min (bit_at mask t) (bit_at (2 ^ e) t)
  own_bit e t e8 t8 =
      let both = bit_at_and (mask * 0x0101010101010101) 0x8040201008040201 (8 * e + t) in
      let one : 1 * mask ≡ mask = omega arith in
      let product : mask * 0x0101010101010101 ≡ bytes (λ k. 1 * mask) 8 = mul_comm mask 0x0101010101010101 ∙ bytes_times 8 (λ k. 1) mask in
      let row : bit_at (mask * 0x0101010101010101) (8 * e + t) ≡ bit_at mask t = ap (λ x. bit_at x (8 * e + t)) product ∙ bytes_bit 8 (λ k. 1 * mask) e t (λ k. omega arith) e8 t8 ∙ ap (λ x. bit_at x t) one in
      let high : 2 ^ e < 2 ^ 8 = pow-lt e8 in
      let own : bit_at 0x8040201008040201 (8 * e + t) ≡ bit_at (2 ^ e) t = bytes_bit 8 (λ k. 2 ^ k % 256) e t (λ k. omega arith) e8 t8 ∙ ap (λ x. bit_at x t) (mod-eq_of_lt high) in
      omega arith

  pub itself_is : AreRows (Itself mask) 8 (bit_and (mask * 0x0101010101010101) 0x8040201008040201)
  itself_is = record {
    there = λ e t e8 h. (let p = mask_true mask e h.1 in let is = own_bit e e p.0 p.0 in let own = bit_at-pow_same e in
        rw h.0 (has_from _ e e p.0 p.0 (omega arith)));
    only = λ e t h. (let p = has_true _ e t h in let is = own_bit e t p.0 p.1 in let low = bit_at-lt mask t in let high = bit_at-lt (2 ^ e) t in
        ⊎_elim
        (λ (same : t ≡ e). (same, rw same at (mask_from mask t p.1 (omega arith))))
        (λ ne. absurd (let none = bit_at-pow_other e t ne in omega arith))
        (cases_eq t e));
  }

-- ---- joined, one status after the other
pub joined_none : (a b : ℕ) → AreRows (JoinedBelow a b 0) 8 0
joined_none a b = record { there = λ e t lt z. absurd (let l = z.1 in omega arith); only = λ e t h. absurd (none_has e t h) }

pub joined_more : (a b n v w : ℕ) → AreRows (JoinedBelow a b n) 8 v → AreRows (JoinedBy a b n) 8 w → AreRows (JoinedBelow a b (n + 1)) 8 (bit_or v w)
joined_more a b n v w x y = record {
  there = λ e t e8 z. ⊎_elim
      (λ lt. (let p = has_true v e t (x.there e t e8 (z.0, lt, z.2, z.3)) in has_from _ e t p.0 p.1 (or_left v w (8 * e + t) p.2)))
      (λ le. (let is : z.0 ≡ n = (let lt = z.1 in omega arith) in let p = has_true w e t (y.there e t e8 (rw is at z.2, rw is at z.3)) in has_from _ e t p.0 p.1 (or_right v w (8 * e + t) p.2)))
      (cases_lt z.0 n);
  only = λ e t h. (let p = has_true _ e t h in ⊎_elim
      (λ l. (let o = x.only e t (has_from v e t p.0 p.1 l) in let lt = o.1 in (o.0, omega arith, o.2, o.3)))
      (λ r. (let o = y.only e t (has_from w e t p.0 p.1 r) in (n, omega arith, o.0, o.1)))
      (or_bit v w (8 * e + t) p.2));
}

pub joined_all : (a b n v : ℕ) → 8 ≤ n → AreRows (JoinedBelow a b n) 8 v → AreRows (Joined a b) 8 v
joined_all a b n v le x = record {
  there = λ e t e8 z. (let p = (has_true a e z.0 z.1).1 in x.there e t e8 (z.0, omega arith, z.1, z.2));
  only = λ e t h. (let o = x.only e t h in (o.0, o.2, o.3));
}

pub joined_empty : (a b : ℕ) → b ≡ 0 → AreRows (Joined a b) 8 0
joined_empty a b is = record { there = λ e t lt z. absurd (none_has z.0 t (rw is at z.2)); only = λ e t h. absurd (none_has e t h) }

-- ---- what another word has not
not_from : (x : Bool) → (x ≡ true → ⊥) → not x ≡ true
not_from true nay = absurd (nay refl)
not_from false nay = refl

not_both : (x : Bool) → x ≡ true → not x ≡ true → ⊥
not_both true yea nay = absurd (cc)
not_both false yea nay = absurd (cc)

pub without_is : (w v e s : ℕ) → v < 2 ^ 64 → has (bit_and w (bit_not w64 v)) e s ≡ (has w e s && not (has v e s))
without_is w v e s fits =
    same_test _ _
    (λ h. (let p = has_true _ e s h in let k = 8 * e + s in
    let both = bit_at_and w (bit_not w64 v) k in
    let off = bit_at_not w64 v k fits (omega (arith, p.0, p.1)) in
    let a = bit_at-lt w k in
    let b = bit_at-lt v k in
    and_from _ _ (has_from w e s p.0 p.1 (omega arith)) (not_from _ (λ yes. let q = (has_true v e s yes).2 in omega arith))))
    (λ h. (let p = and_parts _ _ h in let q = has_true w e s p.0 in let k = 8 * e + s in
    let both = bit_at_and w (bit_not w64 v) k in
    let off = bit_at_not w64 v k fits (omega (arith, q.0, q.1)) in
    let b = bit_at-lt v k in
    has_from _ e s q.0 q.1 (⊎_elim (λ yes. absurd (not_both _ (has_from v e s q.0 q.1 yes) p.1)) (λ ne. omega arith) (cases_eq (bit_at v k) 1))))

pub and_not : (p q : Bool) → p ≡ true → q ≡ false → (p && not q) ≡ true
and_not p q yea off = rw (yea, off) refl
