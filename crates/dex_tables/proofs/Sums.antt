-- Sums below a bound.
use Rattle.std.proofs.Common.{◌≡◌, ℕ, zero, suc, ◌+◌, ◌-◌, ◌≤◌, ap, arith}
use Rattle.dex_tables.specs.Sound.{sum_below}

sum_below-add : (f : ℕ → ℕ) (i k : ℕ) → sum_below f i ≤ sum_below f (k + i)
sum_below-add f i zero = let e : 0 + i ≡ i = omega arith in omega (arith, ap (sum_below f) e)
sum_below-add f i (suc k) =
    let e : suc k + i ≡ suc (k + i) = omega arith in
    omega (arith, ap (sum_below f) e, sum_below-add f i k)

-- a sum grows with its bound
pub sum_below-le : (f : ℕ → ℕ) (i n : ℕ) → i ≤ n → sum_below f i ≤ sum_below f n
sum_below-le f i n le =
    let e : (n - i) + i ≡ n = omega arith in
    omega (arith, ap (sum_below f) e, sum_below-add f i (n - i))

-- the sum with one more
pub sum_below-next : (f : ℕ → ℕ) (i : ℕ) → sum_below f (i + 1) ≡ sum_below f i + f i
sum_below-next f i = let e : i + 1 ≡ suc i = omega arith in ap (sum_below f) e
