-- With which statuses of lock field l an instruction goes on, and with which it throws, by the tags before it and the
-- status before it. Statuses are masks; l is the lock under solution.
use Rattle.std.specs.Prelude.{ℕ, ◌==◌, ◌||◌, Bool, true, false, if◌then◌else◌, List, bit_or, is_some}
use Rattle.ns_base.specs.declared.rows.LockNo.{LockNo}
use Rattle.dalvik.specs.Calls.{receiver_of, argument_of}
use Rattle.app_model.specs.Masks.{in_mask}
use Rattle.app_model.specs.declared.tag.Tag.{Tag}
use Rattle.app_model.specs.declared.tag.Tag.TheVariants.{Bot, Zero, Solid, Held, Any, Field, New, Mixed}
use Rattle.app_model.specs.declared.lock_use.LockUse.{LockUse}
use Rattle.app_model.specs.declared.lock_use.LockUse.TheVariants.{Plain, Make, Acquire, Release, IsHeld, Mode, Wrong}
use Rattle.act_model.specs.declared.act.Act.{Act}
use Rattle.act_model.specs.declared.act.Act.TheVariants.{Go, Test, Copy, TakeResult, Write, Fill, ReadSlot, WriteSlot, Give, Check, Throw, Return, Call}
use Rattle.app_model.specs.declared.calls.By.{By}
use Rattle.app_model.specs.declared.calls.By.TheVariants.{Virtual, Super, Direct, Static}
use Rattle.act_model.specs.declared.act.Throws.{Throws}
use Rattle.act_model.specs.declared.act.Throws.TheVariants.{Never, ByChoice, WhereZero}
use Rattle.act_model.specs.Acts.{op_of}
use Rattle.act_model.specs.Changes.{tag_in}
use Rattle.flow_model.specs.declared.passes.Nullness.{Nullness}
use Rattle.flow_model.specs.declared.passes.Nullness.TheVariants.{Nothing, Null, NotNull, Own, Unknown}
use Rattle.flow_model.specs.Status.{only, acquire_passes, acquire_throws, release_passes, release_throws, is_held_passes, call_throws, mode_passes, mode_throws, store_passes, null_passes, zero_if_null, nonzero_if_null, zero_if_held, nonzero_if_held}

-- ---- the mask of the status before, where a test holds
abbrev pub only_if : Bool → ℕ → ℕ
only_if true s = only s
only_if false s = 0

-- ---- what a tag says of null: nothing is there, null, no null, what l holds, either
abbrev pub nullness : ℕ → Tag → Nullness
nullness l Bot = Nothing
nullness l Zero = Null
nullness l Solid = NotNull
nullness l (New z) = NotNull
nullness l (Field k) = if k.0 == l then Own else Unknown
nullness l (Held k) = Unknown
nullness l Any = Unknown
nullness l Mixed = Unknown

-- a value that must not be null: with which statuses it is not, and with which it is
abbrev pub passes_null : Nullness → ℕ → ℕ
passes_null Nothing s = 0
passes_null Null s = 0
passes_null NotNull s = only s
passes_null Own s = only_if (in_mask nonzero_if_null s) s
passes_null Unknown s = only s

abbrev pub fails_null : Nullness → ℕ → ℕ
fails_null Nothing s = 0
fails_null Null s = only s
fails_null NotNull s = 0
fails_null Own s = only_if (in_mask zero_if_null s) s
fails_null Unknown s = only s

-- ---- an instruction that throws never, by choice, or where a register is null
abbrev pub passes_by : ℕ → Throws → List Tag → ℕ → ℕ
passes_by l Never row s = only s
passes_by l ByChoice row s = only s
passes_by l (WhereZero r) row s = passes_null (nullness l (tag_in row r)) s

abbrev pub throws_by : ℕ → Throws → List Tag → ℕ → ℕ
throws_by l Never row s = 0
throws_by l ByChoice row s = only s
throws_by l (WhereZero r) row s = fails_null (nullness l (tag_in row r)) s

-- ---- a test against zero: the branch that is taken where the value is zero, and the other one
abbrev pub by_branch : (zero : Bool) → (first other : ℕ) → ℕ
by_branch true first other = first
by_branch false first other = other

abbrev pub test_passes : ℕ → Tag → (zero : Bool) → ℕ → ℕ
test_passes l Bot zero s = 0
test_passes l Zero zero s = by_branch zero (only s) 0
test_passes l Solid zero s = by_branch zero 0 (only s)
test_passes l (New z) zero s = by_branch zero 0 (only s)
test_passes l (Held k) zero s =
    if k.0 == l then by_branch zero (only_if (in_mask zero_if_held s) s) (only_if (in_mask nonzero_if_held s) s) else only s
test_passes l (Field k) zero s =
    if k.0 == l then by_branch zero (only_if (in_mask zero_if_null s) s) (only_if (in_mask nonzero_if_null s) s) else only s
test_passes l Any zero s = only s
test_passes l Mixed zero s = only s

-- ---- a store to lock field l, by the tag of the stored value
abbrev pub stored_passes : Tag → ℕ → ℕ
stored_passes (New z) s = store_passes s
stored_passes Zero s = null_passes s
stored_passes Bot s = 0
stored_passes Solid s = 0
stored_passes (Held k) s = 0
stored_passes Any s = 0
stored_passes (Field k) s = 0
stored_passes Mixed s = 0

abbrev pub is_slot : ℕ → LockNo → Bool
is_slot l k = k.0 == l

-- a store that throws passes nothing: the status after it is one to which the store leads from one that passes
abbrev pub slot_passes : ℕ → LockNo → Tag → ℕ → ℕ
slot_passes l k stored s = if is_slot l k then stored_passes stored s else only s

abbrev pub if_passes : (passed image : ℕ) → ℕ
if_passes passed image = if passed == 0 then 0 else image

-- ---- calls
abbrev pub is_lock_call : LockUse → Bool
is_lock_call usage = is_some (op_of usage)

-- all calls but static ones have a receiver, and every lock call has one
abbrev pub is_instance : By → Bool
is_instance Static = false
is_instance Virtual = true
is_instance Super = true
is_instance Direct = true

abbrev pub has_receiver : LockUse → By → Bool
has_receiver usage by = is_lock_call usage || is_instance by

-- where there is no receiver, nothing is null
abbrev pub receiver_nullness : (there : Bool) → ℕ → Tag → Nullness
receiver_nullness true l receiver = nullness l receiver
receiver_nullness false l receiver = NotNull

-- a lock call by a column of the status table, which counts where its receiver is what l holds
abbrev pub lock_call_passes : (ℕ → ℕ) → Nullness → ℕ → ℕ
lock_call_passes column Nothing s = 0
lock_call_passes column Null s = 0
lock_call_passes column NotNull s = only s
lock_call_passes column Own s = column s
lock_call_passes column Unknown s = only s

abbrev pub lock_call_throws : (ℕ → ℕ) → Nullness → ℕ → ℕ
lock_call_throws column Nothing s = 0
lock_call_throws column Null s = only s
lock_call_throws column NotNull s = only s
lock_call_throws column Own s = column s
lock_call_throws column Unknown s = only s

-- a call that may lead outside: it passes only where it does, throws on null, and by choice where it leads outside
abbrev pub passes_outside : (outside : Bool) → Nullness → ℕ → ℕ
passes_outside true receiver s = passes_null receiver s
passes_outside false receiver s = 0

abbrev pub throws_outside : (outside : Bool) → Nullness → ℕ → ℕ
throws_outside outside receiver s = bit_or (fails_null receiver s) (passes_outside outside receiver s)

-- by what the call is to the wake locks, the receiver, and the tag of the argument behind it
abbrev pub call_passes : LockUse → (outside : Bool) → Nullness → Tag → ℕ → ℕ
call_passes Plain outside receiver argument s = passes_outside outside receiver s
call_passes Make outside receiver argument s = passes_outside true receiver s
call_passes Wrong outside receiver argument s = passes_outside true receiver s
call_passes Acquire outside receiver argument s = lock_call_passes acquire_passes receiver s
call_passes Release outside receiver argument s = lock_call_passes release_passes receiver s
call_passes IsHeld outside receiver argument s = lock_call_passes is_held_passes receiver s
call_passes Mode outside receiver argument s = lock_call_passes (mode_passes argument) receiver s

abbrev pub call_throws_with : LockUse → (outside : Bool) → Nullness → Tag → ℕ → ℕ
call_throws_with Plain outside receiver argument s = throws_outside outside receiver s
call_throws_with Make outside receiver argument s = throws_outside true receiver s
call_throws_with Wrong outside receiver argument s = throws_outside true receiver s
call_throws_with Acquire outside receiver argument s = lock_call_throws acquire_throws receiver s
call_throws_with Release outside receiver argument s = lock_call_throws release_throws receiver s
call_throws_with IsHeld outside receiver argument s = lock_call_throws call_throws receiver s
call_throws_with Mode outside receiver argument s = lock_call_throws (mode_throws argument) receiver s

-- ---- every act. `outside` says whether a call may lead outside; k numbers the successor
abbrev pub passes : ℕ → Act → List Tag → (outside : Bool) → (k s : ℕ) → ℕ
passes l Go row outside k s = only s
passes l (Test value zero) row outside k s = test_passes l (tag_in row value) (k == zero) s
passes l (Copy to from wide) row outside k s = only s
passes l (TakeResult to) row outside k s = only s
passes l (Write to what when) row outside k s = passes_by l when row s
passes l (Fill arguments kind) row outside k s = only s
passes l (ReadSlot to slot when) row outside k s = passes_by l when row s
passes l (WriteSlot from slot when) row outside k s = if_passes (passes_by l when row s) (slot_passes l slot (tag_in row from) s)
passes l (Give from when) row outside k s = passes_by l when row s
passes l (Check when) row outside k s = passes_by l when row s
passes l (Throw object) row outside k s = 0
passes l (Return answer) row outside k s = 0
passes l (Call by usage arguments gives) row outside k s =
    call_passes usage outside (receiver_nullness (has_receiver usage by) l (tag_in row (receiver_of arguments))) (tag_in row (argument_of arguments)) s

abbrev pub throws : ℕ → Act → List Tag → (outside : Bool) → (s : ℕ) → ℕ
throws l Go row outside s = 0
throws l (Test value zero) row outside s = 0
throws l (Copy to from wide) row outside s = 0
throws l (TakeResult to) row outside s = 0
throws l (Write to what when) row outside s = throws_by l when row s
throws l (Fill arguments kind) row outside s = 0
throws l (ReadSlot to slot when) row outside s = throws_by l when row s
throws l (WriteSlot from slot when) row outside s = throws_by l when row s
throws l (Give from when) row outside s = throws_by l when row s
throws l (Check when) row outside s = throws_by l when row s
throws l (Throw object) row outside s = only s
throws l (Return answer) row outside s = 0
throws l (Call by usage arguments gives) row outside s =
    call_throws_with usage outside (receiver_nullness (has_receiver usage by) l (tag_in row (receiver_of arguments))) (tag_in row (argument_of arguments)) s

-- whether the receiver lets a call pass at a status, so that a callee is entered
abbrev pub is_open_act : ℕ → Act → List Tag → (s : ℕ) → Bool
is_open_act l (Call by usage arguments gives) row s =
    in_mask (passes_null (receiver_nullness (has_receiver usage by) l (tag_in row (receiver_of arguments))) s) s
is_open_act l act row s = false

-- ---- an own operation of l: a lock call on what it holds, or a store to it
-- the tag of what lock field l holds
abbrev pub is_field : ℕ → Tag → Bool
is_field l (Field k) = k.0 == l
is_field l tag = false

abbrev pub is_own : ℕ → Act → List Tag → Bool
is_own l (Call by usage arguments gives) row = if is_lock_call usage then is_field l (tag_in row (receiver_of arguments)) else false
is_own l (WriteSlot from slot when) row = is_slot l slot
is_own l act row = false
