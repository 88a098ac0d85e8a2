-- Masks of statuses that pass a test, and rows of words.
use Rattle.std.proofs.Common.{◌≡◌, ℕ, zero, suc, ◌+◌, ◌-◌, ◌*◌, ◌^◌, ◌<◌, Bool, true, false, eqb, ltb, refl, sym, ap, ◌∙◌, ⊎_elim, inl, inr, arith, lit<}
use Rattle.std.specs.Prelude.{◌⊎◌, bit_or}
use Rattle.std.specs.Int.{bit_at}
use Rattle.std.proofs.lemmas.Bool.{ltb-true, lt-ltb, cases_lt}
use Rattle.std.proofs.lemmas.Nat.Bits.{same_from_bits_below, bit_at-lt, bit_at-zero, bit_at_cat_low, bit_at_cat_high}
use Rattle.std.proofs.Math.Nat.{two-pow-succ}
use Rattle.app_model.specs.Facts.{Fact, At, Ret, Exc}
use Rattle.app_model.specs.Masks.{in_mask}
use Rattle.solution.specs.Words.{has, AreRows}
use Rattle.solution.proofs.Bits.{has_true, has_from, in_mask_is, none_in}
use Rattle.solution.proofs.Ors.{or_bit, or_left, or_right}
use Rattle.certificate.specs.Solved.{bit_of, mask_below, mask_of, BodyFact, HasRow}

one_more : (b : Bool) (n r : ℕ) → r < 2 ^ n → bit_of b * 2 ^ n + r < 2 ^ suc n
one_more true n r lt = let twice = two-pow-succ n in omega arith
one_more false n r lt = let twice = two-pow-succ n in omega arith

pub below_fits : (n : ℕ) (f : ℕ → Bool) → mask_below n f < 2 ^ n
below_fits zero f = lit< tt
below_fits (suc n) f = one_more (f n) n (mask_below n f) (below_fits n f)

lowest : (b : Bool) → bit_at (bit_of b) 0 ≡ bit_of b
lowest true = refl
lowest false = refl

pub bit_below : (n : ℕ) (f : ℕ → Bool) (i : ℕ) → i < n → bit_at (mask_below n f) i ≡ bit_of (f i)
bit_below zero f i lt = absurd (omega arith)
bit_below (suc n) f i lt =
    elim (cases_lt i n) [
      | inl less ↦ bit_at_cat_low (bit_of (f n)) n (mask_below n f) i less ∙ bit_below n f i less
      | inr le ↦
          let is : i ≡ n = omega arith in
          let none : i - n ≡ 0 = omega arith in
          bit_at_cat_high (bit_of (f n)) n (mask_below n f) i (below_fits n f) le ∙ ap (λ (k : ℕ). bit_at (bit_of (f n)) k) none ∙ lowest (f n) ∙ ap (λ (k : ℕ). bit_of (f k)) (sym is)
    ]

test_bit : (x : ℕ) (b : Bool) → x < 2 → eqb x 1 ≡ b → x ≡ bit_of b
test_bit zero true lt e = absurd cc
test_bit zero false lt e = refl
test_bit (suc zero) true lt e = refl
test_bit (suc zero) false lt e = absurd cc
test_bit (suc (suc x)) b lt e = absurd (omega arith)

-- a mask with the statuses that pass a test is the mask of the test
pub mask_is : (m : ℕ) (f : ℕ → Bool) → m < 2 ^ 8 → ((s : ℕ) → in_mask m s ≡ f s) → m ≡ mask_of f
unfolding mask_of
mask_is m f lt same =
    same_from_bits_below 8 m (mask_below 8 f) lt (below_fits 8 f) (λ i i8. test_bit (bit_at m i) (f i) (bit_at-lt m i) (sym (in_mask_is m i i8) ∙ same i) ∙ sym (bit_below 8 f i i8))

pub mask_fits : (f : ℕ → Bool) → mask_of f < 256
unfolding mask_of
mask_fits f = below_fits 8 f

abbrev Passes : (ℕ → Bool) → Type 0
Passes f = (s : ℕ) × (f s ≡ true)

some_of : (b : Bool) (n : ℕ) (f : ℕ → Bool) → f n ≡ b → (0 < mask_below n f → Passes f) → 0 < bit_of b * 2 ^ n + mask_below n f → Passes f
some_of true n f is below some = (n, is)
some_of false n f is below some = below (omega arith)

some_below : (n : ℕ) (f : ℕ → Bool) → 0 < mask_below n f → Passes f
some_below zero f some = absurd (omega arith)
some_below (suc n) f some = some_of (f n) n f refl (some_below n f) some

pub some_status : (f : ℕ → Bool) → 0 < mask_of f → Passes f
unfolding mask_of
some_status f some = some_below 8 f some

pub status_counts : (f : ℕ → Bool) (s : ℕ) → s < 8 → f s ≡ true → 0 < mask_of f
unfolding mask_of
status_counts f s lt is =
    elim (cases_lt 0 (mask_below 8 f)) [
      | inl some ↦ some
      | inr none ↦
          let zero_is : mask_below 8 f ≡ 0 = omega arith in
          let one : bit_at (mask_below 8 f) s ≡ 1 = bit_below 8 f s lt ∙ ap bit_of is in
          let no : bit_at (mask_below 8 f) s ≡ 0 = ap (λ (m : ℕ). bit_at m s) zero_is ∙ bit_at-zero s in
          absurd (omega arith)
    ]

-- a row that is not empty has some status
pub row_there : (w e r : ℕ) → r < 2 ^ 8 → ((t : ℕ) → in_mask r t ≡ has w e t) → ltb 0 r ≡ true → HasRow w e
row_there w e r fits same some =
    let is = mask_is r (has w e) fits same in
    let more : 0 < r = ltb-true _ _ some in
    some_status (has w e) (omega (arith, is))

pub row_some : (w e r : ℕ) → ((t : ℕ) → in_mask r t ≡ has w e t) → HasRow w e → ltb 0 r ≡ true
row_some w e r same (s, h) =
    elim (cases_lt 0 r) [
      | inl some ↦ lt-ltb 0 r some
      | inr none ↦ let is : r ≡ 0 = omega arith in absurd (none_in s (rw is at (same s ∙ h)))
    ]

-- ---- facts of a method, gathered in one word

abbrev Rows : (Fact → Bool) → (m n word : ℕ) → Type 0
Rows set m n word = AreRows (BodyFact set m n) 8 word

has_left : (a b e s : ℕ) → has a e s ≡ true → has (bit_or a b) e s ≡ true
has_left a b e s h = let p = has_true a e s h in has_from _ e s p.0 p.1 (or_left a b (8 * e + s) p.2)

has_right : (a b e s : ℕ) → has b e s ≡ true → has (bit_or a b) e s ≡ true
has_right a b e s h = let p = has_true b e s h in has_from _ e s p.0 p.1 (or_right a b (8 * e + s) p.2)

has_either : (a b e s : ℕ) → has (bit_or a b) e s ≡ true → (has a e s ≡ true) ⊎ (has b e s ≡ true)
has_either a b e s h =
    let p = has_true _ e s h in
    ⊎_elim (λ x. inl (has_from a e s p.0 p.1 x)) (λ x. inr (has_from b e s p.0 p.1 x)) (or_bit a b (8 * e + s) p.2)

pub end_rows : (set : Fact → Bool) (m a b : ℕ) → ((e s : ℕ) → has a e s ≡ set (Ret m e s)) → ((e s : ℕ) → has b e s ≡ set (Exc m e s)) → Rows set m 0 (bit_or a b)
end_rows set m a b ret exc = record {
  there = λ e s lt fact. elim fact [
    | inl r ↦ has_left a b e s (ret e s ∙ r)
    | inr (inl x) ↦ has_right a b e s (exc e s ∙ x)
    | inr (inr (i, none, h)) ↦ absurd (omega arith)
  ];
  only = λ e s h. ⊎_elim (λ x. inl (sym (ret e s) ∙ x)) (λ x. inr (inl (sym (exc e s) ∙ x))) (has_either a b e s h);
}

pub more_rows : (set : Fact → Bool) (m n a b : ℕ) → Rows set m n a → ((e s : ℕ) → has b e s ≡ set (At m e n s)) → Rows set m (n + 1) (bit_or a b)
more_rows set m n a b rows at = record {
  there = λ e s lt fact. elim fact [
    | inl r ↦ has_left a b e s (rows.there e s lt (inl r))
    | inr (inl x) ↦ has_left a b e s (rows.there e s lt (inr (inl x)))
    | inr (inr (i, in', h)) ↦ elim (cases_lt i n) [
      | inl less ↦ has_left a b e s (rows.there e s lt (inr (inr (i, less, h))))
      | inr le ↦ let is : i ≡ n = omega arith in has_right a b e s (at e s ∙ rw is at h)
    ]
  ];
  only = λ e s h. elim (has_either a b e s h) [
    | inl x ↦ elim (rows.only e s x) [
      | inl r ↦ inl r
      | inr (inl y) ↦ inr (inl y)
      | inr (inr (i, in', k)) ↦ inr (inr (i, omega arith, k))
    ]
    | inr x ↦ inr (inr (n, omega arith, sym (at e s) ∙ x))
  ];
}
