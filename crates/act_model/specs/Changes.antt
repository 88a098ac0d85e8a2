-- What an act does to the tags of a method's registers. A row has a tag for each register, and the last one for the
-- result cell.
use Rattle.std.specs.Prelude.{ℕ, pred, ◌+◌, ◌==◌, Bool, true, false, List, if◌then◌else◌, length, map, slice_index_or, slice_set}
use Rattle.ns_base.specs.declared.rows.LockNo.{LockNo}
use Rattle.dalvik.specs.Calls.{receiver_of}
use Rattle.app_model.specs.declared.tag.Tag.{Tag}
use Rattle.app_model.specs.declared.tag.Tag.TheVariants.{Bot, Zero, Solid, Held, Any, Field, New, Mixed}
use Rattle.app_model.specs.declared.lock_use.LockUse.{LockUse}
use Rattle.app_model.specs.declared.lock_use.LockUse.TheVariants.{Plain, Make, Acquire, Release, IsHeld, Mode, Wrong}
use Rattle.act_model.specs.declared.act.Act.{Act}
use Rattle.act_model.specs.declared.act.Act.TheVariants.{Go, Test, Copy, TakeResult, Write, Fill, ReadSlot, WriteSlot, Give, Check, Throw, Return, Call}
use Rattle.act_model.specs.declared.act.Gives.{Gives}
use Rattle.act_model.specs.declared.act.Gives.TheVariants.{Nothing, Number, Object}
use Rattle.act_model.specs.declared.act.Written.{Written}
use Rattle.act_model.specs.declared.act.Written.TheVariants as written

abbrev pub tag_in : List Tag → ℕ → Tag
tag_in row r = slice_index_or row r Bot

abbrev pub result_cell : List Tag → ℕ
result_cell row = pred (length row)

-- ---- what is written to a register, or to it and the next one; tags and values alike
abbrev pub put : {A : Type 0} → (wide : Bool) → List A → (to : ℕ) → (first second : A) → List A
put true row to first second = slice_set (slice_set row to first) (to + 1) second
put false row to first second = slice_set row to first

abbrev pub is_pair : Written → Bool
is_pair written.Pair = true
is_pair written.Zero = false
is_pair written.Nonzero = false
is_pair written.Number = false
is_pair written.Reference = false
is_pair written.FreeObject = false
is_pair written.Text = false
is_pair written.ClassObject = false
is_pair (written.Typed kind) = false

abbrev pub written_tag : Written → Tag
written_tag written.Zero = Zero
written_tag written.Nonzero = Solid
written_tag written.Number = Any
written_tag written.Reference = Any
written_tag written.FreeObject = Solid
written_tag written.Pair = Any
written_tag written.Text = Solid
written_tag written.ClassObject = Solid
written_tag (written.Typed kind) = Solid

-- ---- what a store to lock field l does to the tag of a register, by the tag of the stored value
-- whether the lock is held is not known any more
abbrev pub without_held : ℕ → LockNo → Tag
without_held l k = if k.0 == l then Any else Held k

-- what the field held before
abbrev pub field_after : Tag → ℕ → LockNo → Tag
field_after Bot l k = Field k
field_after stored l k = if k.0 == l then Mixed else Field k

-- a new lock, of which a copy may have been stored
abbrev pub new_after : Tag → ℕ → Tag
new_after Bot s = New s
new_after Zero s = New s
new_after (New z) s = if s == z then Mixed else New s
new_after Solid s = Mixed
new_after (Held k) s = Mixed
new_after Any s = Mixed
new_after (Field k) s = Mixed
new_after Mixed s = Mixed

abbrev pub stored_change : ℕ → Tag → Tag → Tag
stored_change l stored (Held k) = without_held l k
stored_change l stored (Field k) = field_after stored l k
stored_change l stored (New s) = new_after stored s
stored_change l stored Bot = Bot
stored_change l stored Zero = Zero
stored_change l stored Solid = Solid
stored_change l stored Any = Any
stored_change l stored Mixed = Mixed

-- the register of a new lock that is stored then has what the field has
abbrev pub after_stored : List Tag → ℕ → LockNo → Tag → List Tag
after_stored row from l (New s) = slice_set (map (stored_change l.0 (New s)) row) from (Field l)
after_stored row from l stored = map (stored_change l.0 stored) row

-- ---- what a lock call does to the tag of a register: an acquire or a release, by the tag of its receiver
abbrev pub held_change : Tag → Tag → Tag
held_change (Field l) (Held k) = without_held l.0 k
held_change Mixed (Held k) = Any
held_change receiver tag = tag

abbrev pub call_change : LockUse → Tag → Tag → Tag
call_change Acquire receiver tag = held_change receiver tag
call_change Release receiver tag = held_change receiver tag
call_change Plain receiver tag = tag
call_change Make receiver tag = tag
call_change IsHeld receiver tag = tag
call_change Mode receiver tag = tag
call_change Wrong receiver tag = tag

-- ---- what a call of an application method does to the caller's registers and to the old result cell; `gone` has the
-- lock fields to which a callee's reach stores
abbrev pub called_change : (gone : ℕ → Bool) → Tag → Tag
called_change gone (Held k) = Any
called_change gone (Field k) = if gone k.0 then Mixed else Field k
called_change gone Bot = Bot
called_change gone Zero = Zero
called_change gone Solid = Solid
called_change gone Any = Any
called_change gone (New s) = New s
called_change gone Mixed = Mixed

abbrev pub called : (gone : ℕ → Bool) → List Tag → List Tag
called gone row = map (called_change gone) row

-- ---- the tag of a call's result, where it leads outside
abbrev pub given_tag : Gives → Tag
given_tag Nothing = Zero
given_tag Number = Any
given_tag Object = Any

-- of isHeld, by the tag of its receiver
abbrev pub held_tag : Tag → Tag
held_tag Bot = Bot
held_tag (Field l) = Held l
held_tag receiver = Any

abbrev pub result_tag : (site : ℕ) → LockUse → Gives → Tag → Tag
result_tag site Plain gives receiver = given_tag gives
result_tag site Make gives receiver = New site
result_tag site Acquire gives receiver = Zero
result_tag site Release gives receiver = Zero
result_tag site IsHeld gives receiver = held_tag receiver
result_tag site Mode gives receiver = Zero
result_tag site Wrong gives receiver = given_tag gives

-- ---- the tags where an act threw; a call of an application method by `called`
abbrev pub thrown : Act → List Tag → List Tag
thrown Go row = row
thrown (Test value zero) row = row
thrown (Copy to from wide) row = row
thrown (TakeResult to) row = row
thrown (Write to what throws) row = row
thrown (Fill arguments kind) row = row
thrown (ReadSlot to slot throws) row = row
thrown (WriteSlot from slot throws) row = row
thrown (Give from throws) row = row
thrown (Check throws) row = row
thrown (Throw object) row = row
thrown (Return answer) row = row
thrown (Call by usage arguments gives) row = map (call_change usage (tag_in row (receiver_of arguments))) row

-- ---- the tags after an act; after a call, where it leads outside
abbrev pub after : (site : ℕ) → Act → List Tag → List Tag
after site Go row = row
after site (Test value zero) row = row
after site (Copy to from wide) row = put wide row to (tag_in row from) (tag_in row (from + 1))
after site (TakeResult to) row = slice_set row to (tag_in row (result_cell row))
after site (Write to what throws) row = put (is_pair what) row to (written_tag what) (written_tag what)
after site (Fill arguments kind) row = slice_set row (result_cell row) Solid
after site (ReadSlot to slot throws) row = slice_set row to (Field slot)
after site (WriteSlot from slot throws) row = after_stored row from slot (tag_in row from)
after site (Give from throws) row = row
after site (Check throws) row = row
after site (Throw object) row = row
after site (Return answer) row = row
after site (Call by usage arguments gives) row =
    slice_set (thrown (Call by usage arguments gives) row) (result_cell row) (result_tag site usage gives (tag_in row (receiver_of arguments)))
