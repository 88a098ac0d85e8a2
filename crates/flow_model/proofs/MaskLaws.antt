-- Bits and masks of statuses.
use Rattle.std.proofs.Common.{◌≡◌, ℕ, ◌+◌, ◌<◌, max, true, false, sym, subst, ◌∙◌, inl, inr, ⊎_elim, arith, bit_and, bit_or}
use Rattle.std.specs.Prelude.{◌⊎◌}
use Rattle.std.specs.Int.{bit_at}
use Rattle.std.proofs.lemmas.Bool.Decides.{nat_tests}
use Rattle.std.proofs.lemmas.Nat.Bits.{bit_at-lt, bit_at-zero, bit_at_or, bit_at_and}
use Rattle.app_model.specs.Masks.{in_mask, IsIn}
use Rattle.flow_model.specs.Images.{IsImage, IsCut, IsImageBelow}

pub IsIn-lt : (mask s : ℕ) → IsIn mask s → s < 8
IsIn-lt mask s h = grind (arith, nat_tests)

pub IsIn-bit : (mask s : ℕ) → IsIn mask s → bit_at mask s ≡ 1
IsIn-bit mask s h = grind (arith, nat_tests)

pub IsIn-from : (mask s : ℕ) → s < 8 → bit_at mask s ≡ 1 → IsIn mask s
IsIn-from mask s low bit = grind (arith, nat_tests)

pub IsIn-or_left : (a b s : ℕ) → IsIn a s → IsIn (bit_or a b) s
IsIn-or_left a b s h = IsIn-from (bit_or a b) s (IsIn-lt a s h) (omega (arith, bit_at_or a b s, IsIn-bit a s h, bit_at-lt b s))

pub IsIn-or_right : (a b s : ℕ) → IsIn b s → IsIn (bit_or a b) s
IsIn-or_right a b s h = IsIn-from (bit_or a b) s (IsIn-lt b s h) (omega (arith, bit_at_or a b s, IsIn-bit b s h, bit_at-lt a s))

one_of : (a b : ℕ) → a < 2 → b < 2 → max a b ≡ 1 → (a ≡ 1) ⊎ (b ≡ 1)
one_of a b la lb e = grind arith

pub IsIn-or : (a b s : ℕ) → IsIn (bit_or a b) s → IsIn a s ⊎ IsIn b s
IsIn-or a b s h =
    let low = IsIn-lt (bit_or a b) s h in
    ⊎_elim (λ e. inl (IsIn-from a s low e)) (λ e. inr (IsIn-from b s low e))
    (one_of (bit_at a s) (bit_at b s) (bit_at-lt a s) (bit_at-lt b s) (sym (bit_at_or a b s) ∙ IsIn-bit (bit_or a b) s h))

pub IsIn-zero : (s : ℕ) → IsIn 0 s → ⊥
IsIn-zero s h = absurd (omega (arith, IsIn-bit 0 s h, bit_at-zero s))

pub IsCut-and : (mask kept : ℕ) → IsCut mask kept (bit_and mask kept)
IsCut-and mask kept = record {
  there = λ s h k. IsIn-from (bit_and mask kept) s (IsIn-lt mask s h) (omega (arith, bit_at_and mask kept s, IsIn-bit mask s h, IsIn-bit kept s k));
  only = λ s h.
      let low = IsIn-lt (bit_and mask kept) s h in
      let bit = IsIn-bit (bit_and mask kept) s h in (
        IsIn-from mask s low (omega (arith, bit_at_and mask kept s, bit_at-lt mask s, bit_at-lt kept s, bit)),
        IsIn-from kept s low (omega (arith, bit_at_and mask kept s, bit_at-lt mask s, bit_at-lt kept s, bit)),
      );
}

pub IsImageBelow-zero : (column : ℕ → ℕ) (mask : ℕ) → IsImageBelow column mask 0 0
IsImageBelow-zero column mask = record { there = λ s t h. absurd (omega arith); only = λ t h. absurd (IsIn-zero t h) }

below_or_at : (s n : ℕ) → s < n + 1 → (s < n) ⊎ (s ≡ n)
below_or_at s n h = grind arith

-- one more status, which the mask has, or has not
pub IsImageBelow-has : (column : ℕ → ℕ) (mask n image : ℕ) → in_mask mask n ≡ true → IsImageBelow column mask n image → IsImageBelow column mask (n + 1) (bit_or image (column n))
IsImageBelow-has column mask n image has before = record {
  there = λ s t h is to. ⊎_elim
      (λ less. IsIn-or_left image (column n) t (before.there s t less is to))
      (λ same. IsIn-or_right image (column n) t (subst (λ (k : ℕ). IsIn (column k) t) same to)) (below_or_at s n h);
  only = λ t h. ⊎_elim
      (λ old. let o = before.only t old in (o.0, omega (arith, o.1), o.2, o.3))
      (λ here. (n, omega arith, has, here)) (IsIn-or image (column n) t h);
}

pub IsImageBelow-lacks : (column : ℕ → ℕ) (mask n image : ℕ) → in_mask mask n ≡ false → IsImageBelow column mask n image → IsImageBelow column mask (n + 1) image
IsImageBelow-lacks column mask n image lacks before = record {
  there = λ s t h is to. ⊎_elim
      (λ less. before.there s t less is to)
      (λ same. let bad : in_mask mask n ≡ true = subst (λ (k : ℕ). IsIn mask k) same is in cc) (below_or_at s n h);
  only = λ t h. let o = before.only t h in (o.0, omega (arith, o.1), o.2, o.3);
}

pub IsImage-all : (column : ℕ → ℕ) (mask image : ℕ) → IsImageBelow column mask 8 image → IsImage column mask image
IsImage-all column mask image all = record {
  there = λ s t is to. all.there s t (IsIn-lt mask s is) is to;
  only = λ t h. let o = all.only t h in (o.0, o.2, o.3);
}
