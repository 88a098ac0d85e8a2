-- Tests on masks.
use Rattle.std.proofs.Common.{◌≡◌, ◌-◌, ◌<◌, ◌^◌, ℕ, Bool, false, sym, ◌∙◌, ⊎_elim, arith, bit_and, w8, min, ap}
use Rattle.std.specs.Prelude.{◌↔◌, ◌==◌, not, IsTrue}
use Rattle.std.specs.Int.{bit_at, bit_not, trailing_zeros}
use Rattle.std.proofs.lemmas.Bool.{cases_Bool, cases_eq, false≢true, not-true, not_from_false, eqb-false, ne_eqb}
use Rattle.std.proofs.lemmas.Nat.{and_le_l}
use Rattle.std.proofs.lemmas.Nat.Bits.{bit_at_and, bit_at_not, bit_at-lt, bit_at-zero, bit_at-trailing_zeros}
use Rattle.app_model.specs.Masks.{in_mask}
use Rattle.flow_model.proofs.MaskLaws.{IsIn-bit, IsIn-from, IsIn-lt}
use Rattle.cert_check.specs.Tests.{Misses}

pub in_mask_off : (mask t : ℕ) → bit_at mask t ≡ 0 → in_mask mask t ≡ false
in_mask_off mask t zero = ⊎_elim (λ yes. absurd (let one = IsIn-bit mask t yes in omega arith)) (λ off. off) (cases_Bool (in_mask mask t))

in_mask_zero : (mask t : ℕ) → t < 8 → in_mask mask t ≡ false → bit_at mask t ≡ 0
in_mask_zero mask t low off = ⊎_elim
    (λ zero. zero)
    (λ one. absurd (false≢true (sym off ∙ IsIn-from mask t low (let two = bit_at-lt mask t in omega arith))))
    (cases_eq (bit_at mask t) 0)

module _ (led there : ℕ) (led_fits : led < 2 ^ 8) (there_fits : there < 2 ^ 8) where
  bit_is : (t : ℕ) → t < 8 → bit_at (bit_and led (bit_not w8 there)) t ≡ min (bit_at led t) (1 - bit_at there t)
  bit_is t low = bit_at_and led (bit_not w8 there) t ∙ ap (λ n. min (bit_at led t) n) (bit_at_not w8 there t there_fits low)

  found : 0 < bit_and led (bit_not w8 there) → Misses (in_mask led) (in_mask there)
  found some =
      let z = bit_at-trailing_zeros w8 (bit_and led (bit_not w8 there)) some (let le = and_le_l led (bit_not w8 there) in omega arith) in
      let t = trailing_zeros w8 (bit_and led (bit_not w8 there)) in
      let is = bit_is t z.0 in
      let one = bit_at-lt led t in
      let two = bit_at-lt there t in
      (t, IsIn-from led t z.0 (omega (arith, z.1)), in_mask_off there t (omega (arith, z.1)))

  none : bit_and led (bit_not w8 there) ≡ 0 → Misses (in_mask led) (in_mask there) → ⊥
  none zero m =
      let low = IsIn-lt led m.0 m.1 in
      let is = bit_is m.0 low in
      let on = IsIn-bit led m.0 m.1 in
      let off = in_mask_zero there m.0 low m.2 in
      let nothing = bit_at-zero m.0 in
      let same : bit_at (bit_and led (bit_not w8 there)) m.0 ≡ bit_at 0 m.0 = ap (λ n. bit_at n m.0) zero in
      absurd (omega arith)

  pub misses_is : IsTrue (not (bit_and led (255 - there) == 0)) ↔ Misses (in_mask led) (in_mask there)
  misses_is = (
    (λ yes. found (⊎_elim (λ zero. absurd (eqb-false _ _ (not-true _ yes) zero)) (λ some. omega (arith, some)) (cases_eq (bit_and led (bit_not w8 there)) 0))),
    (λ m. not_from_false _ (ne_eqb _ _ (λ zero. none zero m))),
  )

-- other tests of the same statuses
pub misses_as : (f g a b : ℕ → Bool) → ((t : ℕ) → f t ≡ a t) → ((t : ℕ) → g t ≡ b t) → Misses f g → Misses a b
misses_as f g a b one two z = (z.0, sym (one z.0) ∙ z.1, sym (two z.0) ∙ z.2)
