-- Values, wake locks, what is done to them, and the status of a lock field.
use Rattle.std.specs.Prelude.{ℕ, zero, suc, Bool, true, false, not, ◌&&◌, ◌==◌, if◌then◌else◌, List, [], ◌∷◌, ◌++◌, length, Option, Some, None, slice_index_or, slice_set}
use Rattle.app_model.specs.Masks.{any_below}

pub data Value : Type 0 where
  -- null, or the number zero
  Zero : Value
  -- another number
  Nonzero : Value
  -- an object of a type by its number, or of one that the application does not name; no wake lock
  Object : (type : Option ℕ) → Value
  LockRef : (i : ℕ) → Value

pub record Lock : Type 0 where
  -- the lock field that it was stored to
  pub owner : Option ℕ
  pub count : ℕ
  pub counted : Bool
  -- which instruction made it
  pub site : ℕ

-- what each lock field holds, and all locks ever made
pub record Heap : Type 0 where
  pub cells : List (Option ℕ)
  pub locks : List Lock

abbrev pub new_lock : ℕ → Lock
new_lock site = record { owner = None; count = 0; counted = true; site = site }

unfoldable pub lock_at : Heap → ℕ → Lock
lock_at h i = slice_index_or h.locks i (new_lock 0)

-- the lock that lock field l holds
unfoldable pub cell : Heap → ℕ → Option ℕ
cell h l = slice_index_or h.cells l None

abbrev pub cell_value : Option ℕ → Value
cell_value None = Zero
cell_value (Some i) = LockRef i

abbrev pub is_owned : Option ℕ → Bool
is_owned None = false
is_owned (Some l) = true

abbrev pub is_positive : ℕ → Bool
is_positive zero = false
is_positive (suc n) = true

-- what isHeld answers
abbrev pub held_value : ℕ → Value
held_value zero = Zero
held_value (suc n) = Nonzero

abbrev pub is_lock : Value → Bool
is_lock Zero = false
is_lock Nonzero = false
is_lock (Object type) = false
is_lock (LockRef i) = true

abbrev pub is_null : Value → Bool
is_null Zero = true
is_null Nonzero = false
is_null (Object type) = false
is_null (LockRef i) = false

-- ---- operations
-- a new lock
abbrev pub with_new : Heap → ℕ → Heap
with_new h site = record { cells = h.cells; locks = h.locks ++ new_lock site ∷ [] }

-- lock i with another count
abbrev pub with_count : Heap → ℕ → ℕ → Heap
with_count h i n =
    record { cells = h.cells; locks = slice_set h.locks i (record { owner = (lock_at h i).owner; count = n; counted = (lock_at h i).counted; site = (lock_at h i).site }) }

-- lock i counted or not
abbrev pub with_mode : Heap → ℕ → Bool → Heap
with_mode h i counted =
    record { cells = h.cells; locks = slice_set h.locks i (record { owner = (lock_at h i).owner; count = (lock_at h i).count; counted = counted; site = (lock_at h i).site }) }

-- lock i stored to lock field l
abbrev pub with_stored : Heap → ℕ → ℕ → Heap
with_stored h l i =
    record { cells = slice_set h.cells l (Some i); locks = slice_set h.locks i (record { owner = Some l; count = (lock_at h i).count; counted = (lock_at h i).counted; site = (lock_at h i).site }) }

-- null stored to lock field l
abbrev pub with_null : Heap → ℕ → Heap
with_null h l = record { cells = slice_set h.cells l None; locks = h.locks }

-- the lock fields that are named hold null; l numbers the first cell
abbrev pub cleared_cells : (ℕ → Bool) → ℕ → List (Option ℕ) → List (Option ℕ)
cleared_cells cleared l [] = []
cleared_cells cleared l (c ∷ cells) = (if cleared l then None else c) ∷ cleared_cells cleared (suc l) cells

abbrev pub with_cleared : Heap → (ℕ → Bool) → Heap
with_cleared h cleared = record { cells = cleared_cells cleared 0 h.cells; locks = h.locks }

-- ---- status
abbrev pub is_in_cell : Option ℕ → ℕ → Bool
is_in_cell None i = false
is_in_cell (Some k) i = k == i

-- lock i is owned by lock field l and held
unfoldable pub is_held_lock : Heap → ℕ → ℕ → Bool
is_held_lock h l i = is_in_cell (lock_at h i).owner l && is_positive (lock_at h i).count

-- and is not what the field holds
unfoldable pub is_lost_lock : Heap → ℕ → ℕ → Bool
is_lost_lock h l i = not (is_in_cell (cell h l) i) && is_held_lock h l i

-- some lock of lock field l is lost; is held
unfoldable pub is_lost : Heap → ℕ → Bool
is_lost h l = any_below (is_lost_lock h l) (length h.locks)

unfoldable pub has_held_lock : Heap → ℕ → Bool
has_held_lock h l = any_below (is_held_lock h l) (length h.locks)

-- what a status knows of a lock
pub record Counter : Type 0 where
  pub count : ℕ
  pub counted : Bool

abbrev pub counter_at : Heap → Option ℕ → Option Counter
counter_at h None = None
counter_at h (Some i) = Some (record { count = (lock_at h i).count; counted = (lock_at h i).counted })

-- C0, C1, C2 and CT of a counted lock, U0 and U1 of another
abbrev pub status_by : Bool → ℕ → ℕ
status_by true zero = 1
status_by true (suc zero) = 2
status_by true (suc (suc zero)) = 3
status_by true (suc (suc (suc n))) = 4
status_by false zero = 5
status_by false (suc n) = 6

-- L where a held lock is lost, else A where the field holds none
abbrev pub status_of : (lost : Bool) → Option Counter → ℕ
status_of true counter = 7
status_of false None = 0
status_of false (Some counter) = status_by counter.counted counter.count

-- the status of lock field l
unfoldable pub status : Heap → ℕ → ℕ
status h l = status_of (is_lost h l) (counter_at h (cell h l))
