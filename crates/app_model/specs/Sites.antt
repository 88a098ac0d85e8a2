-- The sites at which locks are made, numbered in order of method and instruction.
use Rattle.std.specs.Prelude.{ℕ, zero, suc, ◌+◌, Bool, true, false, if◌then◌else◌}
use Rattle.app_model.specs.declared.lock_use.LockUse.{LockUse}
use Rattle.app_model.specs.declared.lock_use.LockUse.TheVariants.{Plain, Make, Acquire, Release, IsHeld, Mode, Wrong}
use Rattle.app_model.specs.Parts.{AppParts}
use Rattle.app_model.specs.Words.{code_len}
use Rattle.app_model.specs.LockUse.{lock_use_at}

abbrev pub is_make : LockUse → Bool
is_make Make = true
is_make Plain = false
is_make Acquire = false
is_make Release = false
is_make IsHeld = false
is_make Mode = false
is_make Wrong = false

-- how many locks the instructions of method m before index i make
abbrev pub sites_in : AppParts → (m i : ℕ) → ℕ
sites_in app m zero = 0
sites_in app m (suc i) = sites_in app m i + (if is_make (lock_use_at app m i) then 1 else 0)

-- and those of all methods before m
abbrev pub sites_below : AppParts → (m : ℕ) → ℕ
sites_below app zero = 0
sites_below app (suc m) = sites_below app m + sites_in app m (code_len app m)

-- the site of an instruction that makes a lock: how many come before it
abbrev pub site_at : AppParts → (m i : ℕ) → ℕ
site_at app m i = sites_below app m + sites_in app m i
