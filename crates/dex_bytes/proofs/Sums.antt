-- The two sums of Adler-32, block by block.
use Rattle.std.proofs.Common.{◌≡◌, ℕ, ◌+◌, ◌*◌, ◌/◌, ◌%◌, ◌<◌, List, [], ◌∷◌, ◌++◌, length, take, drop, get_or, sum, refl, sym, ◌∙◌, ap, arith, drop-cons, add-one}
use Rattle.std.proofs.Math.Nat.{mod-add-mod, mod-add-div', add-mul-mod_self_right}
use Rattle.std.proofs.lemmas.List.{take-append-drop}
use Rattle.std.proofs.lemmas.List.Sums.{sum_by-append, sum_by-cons}
use Rattle.dex_bytes.specs.Checksum.{sum_of_sums, adler_from}

-- one byte more
pub sum_of_sums_more : (a : ℕ) (xs : List ℕ) (i : ℕ) → i < length xs → sum_of_sums a (drop i xs) ≡ (a + get_or xs i 0) + sum_of_sums (a + get_or xs i 0) (drop (i + 1) xs)
sum_of_sums_more a xs i h = rw (add-one, drop-cons xs i 0) refl

-- a larger start is counted once for each byte
pub sum_of_sums_from : (a c : ℕ) (xs : List ℕ) → sum_of_sums (a + c) xs ≡ sum_of_sums a xs + length xs * c
sum_of_sums_from a c [] = omega arith
sum_of_sums_from a c (x ∷ xs) =
    let more : sum_of_sums ((a + x) + c) xs ≡ sum_of_sums (a + x) xs + length xs * c = sum_of_sums_from (a + x) c xs in
    let moved : (a + c) + x ≡ (a + x) + c = omega arith in
    let same : sum_of_sums ((a + c) + x) xs ≡ sum_of_sums ((a + x) + c) xs = ap (λ n. sum_of_sums n xs) moved in
    omega arith

-- the sums of two blocks
pub sum_of_sums_append : (a : ℕ) (xs ys : List ℕ) → sum_of_sums a (xs ++ ys) ≡ sum_of_sums a xs + sum_of_sums (a + sum xs) ys
sum_of_sums_append a [] ys = ap (λ n. sum_of_sums n ys) (let e : a ≡ a + 0 = omega arith in e) ∙ omega arith
sum_of_sums_append a (x ∷ xs) ys =
    let more : sum_of_sums (a + x) (xs ++ ys) ≡ sum_of_sums (a + x) xs + sum_of_sums ((a + x) + sum xs) ys = sum_of_sums_append (a + x) xs ys in
    let moved : (a + x) + sum xs ≡ a + sum (x ∷ xs) = omega (arith, sum_by-cons (λ (n : ℕ). n) x xs) in
    let same : sum_of_sums ((a + x) + sum xs) ys ≡ sum_of_sums (a + sum (x ∷ xs)) ys = ap (λ n. sum_of_sums n ys) moved in
    omega arith

-- the second sum is the same where the first was reduced before
second_reduced : (n k : ℕ) (ys : List ℕ) → (n + sum_of_sums k ys) % 65521 ≡ (n + sum_of_sums (k % 65521) ys) % 65521
second_reduced n k ys =
    let parts : k ≡ k % 65521 + k / 65521 * 65521 = sym (mod-add-div' k 65521) in
    let whole : sum_of_sums k ys ≡ sum_of_sums (k % 65521 + k / 65521 * 65521) ys = ap (λ m. sum_of_sums m ys) parts in
    let split : sum_of_sums (k % 65521 + k / 65521 * 65521) ys ≡ sum_of_sums (k % 65521) ys + length ys * (k / 65521 * 65521) = sum_of_sums_from (k % 65521) (k / 65521 * 65521) ys in
    let all : n + sum_of_sums k ys ≡ (n + sum_of_sums (k % 65521) ys) + length ys * (k / 65521) * 65521 = omega arith in
    ap (λ m. m % 65521) all ∙ add-mul-mod_self_right _ _ _

-- a block may be added and reduced before the rest
pub adler_from_block : (a b : ℕ) (xs ys : List ℕ) → adler_from a b (xs ++ ys) ≡ adler_from ((a + sum xs) % 65521) ((b + sum_of_sums a xs) % 65521) ys
unfolding adler_from
adler_from_block a b xs ys =
    let second : (b + sum_of_sums a (xs ++ ys)) % 65521 ≡ ((b + sum_of_sums a xs) % 65521 + sum_of_sums ((a + sum xs) % 65521) ys) % 65521 =
    ap (λ n. n % 65521) (let e : b + sum_of_sums a (xs ++ ys) ≡ (b + sum_of_sums a xs) + sum_of_sums (a + sum xs) ys = omega (arith, sum_of_sums_append a xs ys) in e)
    ∙ second_reduced (b + sum_of_sums a xs) (a + sum xs) ys
    ∙ sym (mod-add-mod (b + sum_of_sums a xs) 65521 _) in
    let first : (a + sum (xs ++ ys)) % 65521 ≡ ((a + sum xs) % 65521 + sum ys) % 65521 =
    ap (λ n. n % 65521) (let e : a + sum (xs ++ ys) ≡ (a + sum xs) + sum ys = omega (arith, sum_by-append (λ (n : ℕ). n) xs ys) in e)
    ∙ sym (mod-add-mod (a + sum xs) 65521 _) in
    omega arith

-- the same where a block was cut off the front
pub adler_from_cut : (a b k n m : ℕ) (all block later : List ℕ) → block ≡ take k all → later ≡ drop k all → n ≡ (a + sum block) % 65521 → m ≡ (b + sum_of_sums a block) % 65521 → adler_from n m later ≡ adler_from a b all
adler_from_cut a b k n m all block later front back first second =
    let joined : block ++ later ≡ all = cc (take-append-drop k all) in
    let step : adler_from a b (block ++ later) ≡ adler_from ((a + sum block) % 65521) ((b + sum_of_sums a block) % 65521) later = adler_from_block a b block later in
    cc
