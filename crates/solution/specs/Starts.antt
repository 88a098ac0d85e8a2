-- A table without facts.
use Rattle.std.specs.Prelude.{ℕ, ◌≡◌, ◌<◌, [], length, replicate, slice_index_or}
use Rattle.solution.specs.Table.{Rows}

-- the rows below n, each with its words, all zero; and no other
pub record AreEmpty (len : ℕ → ℕ) (n : ℕ) (rows : Rows) : Type 0 where
  pub count : length rows ≡ n
  pub each : (m : ℕ) → m < n → slice_index_or rows m [] ≡ replicate (len m) 0
