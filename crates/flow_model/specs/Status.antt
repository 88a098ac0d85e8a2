-- The status table: for each operation, and each status before it, the mask of the statuses after it.
use Rattle.std.specs.Prelude.{ℕ, List, [], ◌∷◌, map, slice_index}
use Rattle.app_model.specs.declared.tag.Tag.{Tag}
use Rattle.app_model.specs.declared.tag.Tag.TheVariants.{Bot, Zero, Solid, Held, Any, Field, New, Mixed}

-- the mask of one status
abbrev pub only : ℕ → ℕ
only s = slice_index (0x01 ∷ 0x02 ∷ 0x04 ∷ 0x08 ∷ 0x10 ∷ 0x20 ∷ 0x40 ∷ 0x80 ∷ []) s

-- acquire, where it returns; where it throws
abbrev pub acquire_passes : ℕ → ℕ
acquire_passes s = slice_index (0x00 ∷ 0x04 ∷ 0x08 ∷ 0x10 ∷ 0x10 ∷ 0x40 ∷ 0x40 ∷ 0x80 ∷ []) s

abbrev pub acquire_throws : ℕ → ℕ
acquire_throws s = slice_index (0x01 ∷ 0x00 ∷ 0x00 ∷ 0x00 ∷ 0x00 ∷ 0x00 ∷ 0x00 ∷ 0x80 ∷ []) s

-- a release may lead from CT to C2 or CT; of a counted lock at count zero it throws
abbrev pub release_passes : ℕ → ℕ
release_passes s = slice_index (0x00 ∷ 0x00 ∷ 0x02 ∷ 0x04 ∷ 0x18 ∷ 0x20 ∷ 0x20 ∷ 0x80 ∷ []) s

abbrev pub release_throws : ℕ → ℕ
release_throws s = slice_index (0x01 ∷ 0x02 ∷ 0x00 ∷ 0x00 ∷ 0x00 ∷ 0x00 ∷ 0x00 ∷ 0x80 ∷ []) s

abbrev pub is_held_passes : ℕ → ℕ
is_held_passes s = slice_index (0x00 ∷ 0x02 ∷ 0x04 ∷ 0x08 ∷ 0x10 ∷ 0x20 ∷ 0x40 ∷ 0x80 ∷ []) s

-- of a call on nothing, or where a lock is lost
abbrev pub call_throws : ℕ → ℕ
call_throws s = slice_index (0x01 ∷ 0x00 ∷ 0x00 ∷ 0x00 ∷ 0x00 ∷ 0x00 ∷ 0x00 ∷ 0x80 ∷ []) s

-- setReferenceCounted(false), and (true)
abbrev pub uncounted_passes : ℕ → ℕ
uncounted_passes s = slice_index (0x00 ∷ 0x20 ∷ 0x40 ∷ 0x40 ∷ 0x40 ∷ 0x20 ∷ 0x40 ∷ 0x80 ∷ []) s

abbrev pub counted_passes : ℕ → ℕ
counted_passes s = slice_index (0x00 ∷ 0x02 ∷ 0x04 ∷ 0x08 ∷ 0x10 ∷ 0x02 ∷ 0x1c ∷ 0x80 ∷ []) s

-- either of these two, where the argument is not known
abbrev pub either_passes : ℕ → ℕ
either_passes s = slice_index (0x00 ∷ 0x22 ∷ 0x44 ∷ 0x48 ∷ 0x50 ∷ 0x22 ∷ 0x5c ∷ 0x80 ∷ []) s

abbrev pub nowhere : ℕ → ℕ
nowhere s = 0

-- setReferenceCounted by the tag of its argument, where it returns; where it throws
abbrev pub mode_passes : Tag → ℕ → ℕ
mode_passes Bot = nowhere
mode_passes Zero = uncounted_passes
mode_passes Solid = counted_passes
mode_passes (Held l) = either_passes
mode_passes Any = either_passes
mode_passes (Field l) = either_passes
mode_passes (New k) = either_passes
mode_passes Mixed = either_passes

abbrev pub mode_throws : Tag → ℕ → ℕ
mode_throws Bot = nowhere
mode_throws Zero = call_throws
mode_throws Solid = call_throws
mode_throws (Held l) = call_throws
mode_throws Any = call_throws
mode_throws (Field l) = call_throws
mode_throws (New k) = call_throws
mode_throws Mixed = call_throws

-- a store of a new lock; a held lock is lost
abbrev pub store_passes : ℕ → ℕ
store_passes s = slice_index (0x02 ∷ 0x02 ∷ 0x80 ∷ 0x80 ∷ 0x80 ∷ 0x02 ∷ 0x80 ∷ 0x80 ∷ []) s

-- a store of null, or a clearing: the status after it, and its mask
abbrev pub reset_column : List ℕ
reset_column = 0 ∷ 0 ∷ 7 ∷ 7 ∷ 7 ∷ 0 ∷ 7 ∷ 7 ∷ []

abbrev pub reset : ℕ → ℕ
reset s = slice_index reset_column s

abbrev pub null_passes : ℕ → ℕ
null_passes s = slice_index (map only reset_column) s

-- the branches of a test whether the field is null, and of one whether its lock is held
abbrev pub zero_if_null : ℕ
zero_if_null = 0x81

abbrev pub nonzero_if_null : ℕ
nonzero_if_null = 0xfe

abbrev pub zero_if_held : ℕ
zero_if_held = 0xa3

abbrev pub nonzero_if_held : ℕ
nonzero_if_held = 0xdc
