-- Adler-32: two sums, each modulo the largest prime below 2 ^ 16.
use Rattle.std.specs.Prelude.{ℕ, ◌+◌, ◌*◌, ◌%◌, List, [], ◌∷◌, sum}

-- the sum of the sums so far, one after each byte, where the first sum begins at a
abbrev pub sum_of_sums : ℕ → List ℕ → ℕ
sum_of_sums a [] = 0
sum_of_sums a (b ∷ bs) = (a + b) + sum_of_sums (a + b) bs

-- the two sums of these bytes as one number, where the sums begin at a and b
unfoldable pub adler_from : ℕ → ℕ → List ℕ → ℕ
adler_from a b bs = (b + sum_of_sums a bs) % 65521 * 65536 + (a + sum bs) % 65521

-- the first sum begins at 1, the second at 0
abbrev pub adler_of : List ℕ → ℕ
adler_of bs = adler_from 1 0 bs
