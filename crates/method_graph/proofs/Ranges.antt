-- The first register of a range that is past the end.
use Rattle.std.proofs.Common.{◌≡◌, ℕ, zero, suc, ◌+◌, ◌<◌, ◌≤◌, inl, inr, true, false, nat_le, Some, None, refl, ap, arith}
use Rattle.std.proofs.lemmas.Bool.Decides.{nat_tests}
use Rattle.std.proofs.Math.Nat.{eq-or-lt_of_le}
use Rattle.std.specs.List.{range_with_len}
use Rattle.method_graph.specs.Registers.{first_past}

le_true : (n f : ℕ) → n ≤ f → nat_le n f ≡ true
le_true n f h = grind (arith, nat_tests)

le_false : (n f : ℕ) → f < n → nat_le n f ≡ false
le_false n f h = grind (arith, nat_tests)

-- a range within the registers
pub range_within : (count first len : ℕ) → first + len ≤ count → first_past count (range_with_len first len) ≡ None
range_within count first zero h = refl
range_within count first (suc len) h =
    let here : nat_le count first ≡ false = le_false count first (omega arith) in
    rw here (range_within count (first + 1) len (omega arith))

le_next : (first count : ℕ) → first < count → first + 1 ≤ count
le_next first count h = omega arith

-- a range that begins within the registers and ends past them
pub range_across : (count first len : ℕ) → first < count → count < first + len → first_past count (range_with_len first len) ≡ Some count
range_across count first zero low high = absurd (omega arith)
range_across count first (suc zero) low high = absurd (omega arith)
range_across count first (suc (suc len)) low high =
    let here : nat_le count first ≡ false = le_false count first low in
    rw here (elim (eq-or-lt_of_le (le_next first count low)) [
      | inl same ↦
          let next : nat_le count (first + 1) ≡ true = le_true count (first + 1) (omega arith) in
          rw next (ap (λ (n : ℕ). Some n) same)
      | inr more ↦ range_across count (first + 1) (suc len) more (omega arith)
    ])
