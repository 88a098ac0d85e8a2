-- Sets of lock fields, joined.
use Rattle.std.proofs.Common.{◌≡◌, ℕ, Bool, true, ◌+◌, ◌<◌, refl, ap, subst, ⊎_elim, inl, inr, arith, bit_or, Option, Some}
use Rattle.std.specs.Prelude.{◌⊎◌, ◌↔◌}
use Rattle.std.specs.Int.{bit_at}
use Rattle.std.proofs.lemmas.Bool.{cases_lt}
use Rattle.std.proofs.lemmas.Nat.Bits.{bit_at-zero}
use Rattle.call_reach.proofs.Bits.{or_bit, or_left, or_right}
use Rattle.scope_facts.specs.Bits.{Tells, HoldsBelow}

pub no_bit_told : (l : ℕ) → bit_at 0 l ≡ 1 → ⊥
no_bit_told l e = let z = bit_at-zero l in omega arith

pub none_below : (P : (i l : ℕ) → Type 0) → Tells 0 (HoldsBelow 0 P)
none_below P l within = ((λ e. absurd (no_bit_told l e)), λ h. absurd (omega (arith, h.1)))

pub one_more_below : (P : (i l : ℕ) → Type 0) (n mask bits : ℕ) → Tells mask (HoldsBelow n P) → Tells bits (P n) → Tells (bit_or mask bits) (HoldsBelow (n + 1) P)
one_more_below P n mask bits before this l within = (
  λ e. ⊎_elim (λ old. (let h : HoldsBelow n P l = (before l within).0 old in (h.0, omega (arith, h.1), h.2))) (λ new. (n, omega arith, (this l within).0 new)) (or_bit mask bits l e),
  λ h. ⊎_elim
      (λ less. or_left mask bits l ((before l within).1 (h.0, less, h.2)))
      (λ le. or_right mask bits l ((this l within).1 (let is : h.0 ≡ n = omega (arith, le, h.1) in subst (λ (k : ℕ). P k l) is h.2)))
      (cases_lt h.0 n),
)

-- the same set told otherwise
pub told_as : (P Q : ℕ → Type 0) (mask : ℕ) → ((l : ℕ) → l < 64 → P l ↔ Q l) → Tells mask P → Tells mask Q
told_as P Q mask same told l within = ((λ e. (same l within).0 ((told l within).0 e)), λ q. (told l within).1 ((same l within).1 q))

-- ---- a lock field after another
abbrev pub At : (ℕ → Type 0) → (i l : ℕ) → Type 0
At P i l = P i × (i ≡ l)

pub one_lock_more : (P : ℕ → Type 0) (n mask bits : ℕ) (test : Bool) → Tells mask (HoldsBelow n (At P)) → Tells bits (λ l. (test ≡ true) × (n ≡ l)) → ((test ≡ true) ↔ P n) → Tells (bit_or mask bits) (HoldsBelow (n + 1) (At P))
one_lock_more P n mask bits test before this is =
    one_more_below (At P) n mask bits before (told_as (λ l. (test ≡ true) × (n ≡ l)) (At P n) bits (λ l within. ((λ h. (is.0 h.0, h.1)), λ h. (is.1 h.0, h.1))) this)

pub all_locks : (P : ℕ → Type 0) (n mask : ℕ) → ((l : ℕ) → P l → l < n) → Tells mask (HoldsBelow n (At P)) → Tells mask P
all_locks P n mask low told = told_as (HoldsBelow n (At P)) P mask (λ l within. ((λ h. subst P h.2.1 h.2.0), λ p. (l, low l p, (p, refl)))) told

-- one more lock field
pub with_bit : (stored bit k : ℕ) → Tells bit (λ l. k ≡ l) → (l : ℕ) → l < 64 → (bit_at (bit_or stored bit) l ≡ 1) ↔ ((bit_at stored l ≡ 1) ⊎ (◌≡◌ {A = Option ℕ} (Some k) (Some l)))
with_bit stored bit k this l within = (
  λ e. ⊎_elim inl (λ new. inr (ap Some ((this l within).0 new))) (or_bit stored bit l e),
  λ h. ⊎_elim (or_left stored bit l) (λ is. or_right stored bit l ((this l within).1 (let same : k ≡ l = cc in same))) h,
)
