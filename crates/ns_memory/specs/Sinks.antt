-- What a sink in memory holds, and how much a call takes.
use Rattle.std.specs.Prelude.{◌==◌, ◌&&◌, ℕ, Bool, true, List, length, nat_lt, Result, Ok, Err}

-- a sink that takes pieces and fails at named calls
pub record SinkState : Type 0 where
  -- all that was taken
  pub bytes : List ℕ
  -- how many bytes it takes in all
  pub room : ℕ
  -- how many bytes it takes at a call
  pub piece : ℕ
  -- the numbers of the calls that fail
  pub fails : List ℕ
  -- how many calls were made: the number of the next one
  pub calls : ℕ
  -- how many calls failed, or took nothing of something
  pub faults : ℕ

-- a sink that takes what fits
pub record CleanSinkState : Type 0 where
  -- all that was taken
  pub bytes : List ℕ
  -- how many bytes it takes in all
  pub room : ℕ
  -- how many calls took nothing of something
  pub faults : ℕ

-- a write failed, or took nothing of something
abbrev pub is_stuck : {E : Type 0} → List ℕ → Result ℕ E → Bool
is_stuck piece (Ok n) = n == 0 && nat_lt 0 (length piece)
is_stuck piece (Err e) = true
