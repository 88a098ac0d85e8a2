-- Sets of lock fields as masks: bit l for lock field l.
use Rattle.std.specs.Prelude.{ℕ, ◌≡◌, ◌<◌, ◌↔◌}
use Rattle.std.specs.Int.{bit_at}

-- a mask has the lock fields of which something holds
abbrev pub Tells : (mask : ℕ) → (ℕ → Type 0) → Type 0
Tells mask P = (l : ℕ) → l < 64 → (bit_at mask l ≡ 1) ↔ P l

-- it holds at some number below a bound
abbrev pub HoldsBelow : (bound : ℕ) → ((i l : ℕ) → Type 0) → ℕ → Type 0
HoldsBelow bound P l = (i : ℕ) × (i < bound) × P i l
