-- The eight statuses of a lock field by number, and sets of them as masks: status s is in the mask whose bit s is set.
-- A is no lock; C0, C1, C2, CT a counted lock with count 0, 1, 2, more; U0, U1 an uncounted one with count zero, above
-- zero; L a lock that was in the field, is not in it now, and has a count above zero.
use Rattle.std.specs.Prelude.{◌≡◌, ℕ, zero, suc, Bool, true, false, nat_lt, ◌&&◌, ◌||◌, ◌==◌}
use Rattle.std.specs.Int.{bit_at}

abbrev pub in_mask : ℕ → ℕ → Bool
in_mask mask s = nat_lt s 8 && (bit_at mask s == 1)

abbrev pub IsIn : ℕ → ℕ → Type 0
IsIn mask s = in_mask mask s ≡ true

-- the statuses C1, C2, CT, U1 and L
abbrev pub held_statuses : ℕ
held_statuses = 0xdc

abbrev pub is_held : ℕ → Bool
is_held s = in_mask held_statuses s

-- a set of lock fields, of which there are at most 64: bit l for lock field l
abbrev pub in_lock_mask : ℕ → ℕ → Bool
in_lock_mask mask l = nat_lt l 64 && (bit_at mask l == 1)

-- some number below n passes the test
abbrev pub any_below : (ℕ → Bool) → ℕ → Bool
any_below f zero = false
any_below f (suc n) = f n || any_below f n
