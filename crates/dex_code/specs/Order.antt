-- Numbers in rising order.
use Rattle.std.specs.Prelude.{ℕ, ◌<◌, ◌≤◌, List, length, slice_index}

pub record IsRising (xs : List ℕ) : Type 0 where
  pub each : (i j : ℕ) → i ≤ j → j < length xs → slice_index xs i ≤ slice_index xs j

-- none of them is above a number
abbrev pub AllBelow : List ℕ → ℕ → Type 0
AllBelow xs n = (i : ℕ) → i < length xs → slice_index xs i ≤ n
