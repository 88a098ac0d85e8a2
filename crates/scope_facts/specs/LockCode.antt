-- What the instructions of each method do with locks, as two bits.
use Rattle.std.specs.Prelude.{ℕ, ◌≡◌, ◌<◌, ◌↔◌, ◌&&◌, not, Bool, true, List, length, slice_index}
use Rattle.std.specs.Int.{bit_at}
use Rattle.app_model.specs.Masks.{any_below}
use Rattle.app_model.specs.Parts.{AppParts}
use Rattle.app_model.specs.Words.{code_len}
use Rattle.flow_model.specs.Breaks.{is_lock_ins, is_own_store}

-- a lock instruction that is no initialiser store
abbrev pub is_other : AppParts → (m i : ℕ) → Bool
is_other app m i = is_lock_ins app m i && not (is_own_store app m i)

pub record IsLockWord (app : AppParts) (m word : ℕ) : Type 0 where
  pub locks : (bit_at word 0 ≡ 1) ↔ (any_below (is_lock_ins app m) (code_len app m) ≡ true)
  pub others : (bit_at word 1 ≡ 1) ↔ (any_below (is_other app m) (code_len app m) ≡ true)

pub record AreLockWords (app : AppParts) (words : List ℕ) : Type 0 where
  pub len : length words ≡ length app.methods
  pub each : (m : ℕ) → m < length app.methods → IsLockWord app m (slice_index words m)
