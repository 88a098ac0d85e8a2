-- What one byte does in a text.
use Rattle.std.proofs.Common.{◌≡◌, ℕ, suc, ◌<◌, ◌≤◌, Some, ap, arith}
use Rattle.std.proofs.lemmas.Bool.Decides.{nat_tests}
use Rattle.dex_bytes.specs.Mutf8.{IsTrail, trails_after, next_unit, step_of}
use Rattle.dex_bytes.specs.declared.text.Step.TheVariants.{More, End}

pub trails_of_one : (a : ℕ) → 0 < a → a < 128 → trails_after a ≡ Some 0
trails_of_one a low high = grind (arith, nat_tests)

pub trails_of_two : (a : ℕ) → 192 ≤ a → a < 224 → trails_after a ≡ Some 1
trails_of_two a low high = grind (arith, nat_tests)

pub trails_of_three : (a : ℕ) → 224 ≤ a → a < 240 → trails_after a ≡ Some 2
trails_of_three a low high = grind (arith, nat_tests)

pub step_of_trail : (t n b : ℕ) → 128 ≤ b → b < 192 → step_of (record { trails = suc t; units = n }) b ≡ More (record { trails = t; units = n })
step_of_trail t n b low high = grind (arith, nat_tests)

pub step_of_unit : (n b t : ℕ) → trails_after b ≡ Some t → step_of (record { trails = 0; units = suc n }) b ≡ More (record { trails = t; units = n })
step_of_unit n b t e = grind (arith, nat_tests, ap (next_unit n) e)

-- the other way round
pub trails_bound : (b t : ℕ) → trails_after b ≡ Some t → t ≤ 2
trails_bound b t e = grind (arith, nat_tests)

pub one_byte_of : (b : ℕ) → trails_after b ≡ Some 0 → (0 < b) × (b < 128)
one_byte_of b e = (grind (arith, nat_tests), grind (arith, nat_tests))

pub two_bytes_of : (b : ℕ) → trails_after b ≡ Some 1 → (192 ≤ b) × (b < 224)
two_bytes_of b e = (grind (arith, nat_tests), grind (arith, nat_tests))

pub three_bytes_of : (b : ℕ) → trails_after b ≡ Some 2 → (224 ≤ b) × (b < 240)
three_bytes_of b e = (grind (arith, nat_tests), grind (arith, nat_tests))

pub trail_of_step : (t n b u m : ℕ) → step_of (record { trails = suc t; units = n }) b ≡ More (record { trails = u; units = m }) → IsTrail b × (u ≡ t) × (m ≡ n)
trail_of_step t n b u m e = (((grind (arith, nat_tests)), (grind (arith, nat_tests))), grind (arith, nat_tests), grind (arith, nat_tests))

pub unit_of_step : (n b u m : ℕ) → step_of (record { trails = 0; units = n }) b ≡ More (record { trails = u; units = m }) → (n ≡ suc m) × (trails_after b ≡ Some u)
unit_of_step n b u m e = (grind (arith, nat_tests), grind (arith, nat_tests))

pub end_of_step : (t n b : ℕ) → step_of (record { trails = t; units = n }) b ≡ End → (t ≡ 0) × (n ≡ 0) × (b ≡ 0)
end_of_step t n b e = (grind (arith, nat_tests), grind (arith, nat_tests), grind (arith, nat_tests))

pub step_of_end : (t n : ℕ) → t ≡ 0 → n ≡ 0 → step_of (record { trails = t; units = n }) 0 ≡ End
step_of_end t n p q = grind (arith, nat_tests)
