-- Tests of the scope rules on one instruction, by the tags before it.
use Rattle.dalvik.specs.Calls.{args_len, arg_at}
use Rattle.std.specs.Prelude.{ℕ, nat_le, Bool, true, false, not, ◌&&◌, ◌||◌, List, Option, Some, None}
use Rattle.app_model.specs.declared.tag.Tag.{Tag}
use Rattle.app_model.specs.declared.tag.Tag.TheVariants.{Bot, Zero, Solid, Held, Any, Field, New, Mixed}
use Rattle.dalvik.specs.declared.ins.Args.{Args}
use Rattle.app_model.specs.declared.lock_use.LockUse.TheVariants.{Wrong}
use Rattle.act_model.specs.declared.act.Act.{Act}
use Rattle.act_model.specs.declared.act.Act.TheVariants.{Go, Test, Copy, TakeResult, Write, Fill, ReadSlot, WriteSlot, Give, Check, Throw, Return, Call}
use Rattle.dalvik.specs.Calls.{receiver_of}
use Rattle.act_model.specs.Changes.{tag_in}
use Rattle.app_model.specs.Masks.{any_below}
use Rattle.flow_model.specs.Passes.{is_lock_call, is_slot}

-- ---- escapes
-- the tags of what may be a lock
abbrev pub may_be_lock : Tag → Bool
may_be_lock (Field l) = true
may_be_lock (New s) = true
may_be_lock Mixed = true
may_be_lock Bot = false
may_be_lock Zero = false
may_be_lock Solid = false
may_be_lock (Held l) = false
may_be_lock Any = false

abbrev pub is_new : Tag → Bool
is_new (New s) = true
is_new tag = false

-- an argument of that number or a later one may be a lock
abbrev pub passes_lock : List Tag → Args → ℕ → Bool
passes_lock row arguments from = any_below (λ k. nat_le from k && may_be_lock (tag_in row (arg_at arguments k))) (args_len arguments)

-- the receiver of a lock call may be what a field holds
abbrev pub escapes_as_receiver : Tag → Bool
escapes_as_receiver (New s) = true
escapes_as_receiver Mixed = true
escapes_as_receiver tag = false

abbrev pub call_escapes : Bool → List Tag → Args → Bool
call_escapes true row arguments = escapes_as_receiver (tag_in row (receiver_of arguments)) || passes_lock row arguments 1
call_escapes false row arguments = passes_lock row arguments 0

-- what may be stored into a lock field: null, or a new lock
abbrev pub may_be_stored : Tag → Bool
may_be_stored Bot = true
may_be_stored Zero = true
may_be_stored (New s) = true
may_be_stored Solid = false
may_be_stored (Held l) = false
may_be_stored Any = false
may_be_stored (Field l) = false
may_be_stored Mixed = false

-- a call: a lock may be the receiver of a lock call, and no other argument
abbrev pub is_escape : Option Act → List Tag → Bool
is_escape None row = false
is_escape (Some (Call by usage arguments gives)) row = call_escapes (is_lock_call usage) row arguments
is_escape (Some (WriteSlot from slot throws)) row = not (may_be_stored (tag_in row from))
is_escape (Some (Give from throws)) row = may_be_lock (tag_in row from)
is_escape (Some (Fill arguments kind)) row = passes_lock row arguments 0
is_escape (Some (Throw object)) row = may_be_lock (tag_in row object)
is_escape (Some Go) row = false
is_escape (Some (Test value zero)) row = false
is_escape (Some (Copy to from wide)) row = false
is_escape (Some (TakeResult to)) row = false
is_escape (Some (Write to what throws)) row = false
is_escape (Some (ReadSlot to slot throws)) row = false
is_escape (Some (Check throws)) row = false
is_escape (Some (Return answer)) row = false

-- ---- lock calls
abbrev pub is_no_lock : Tag → Bool
is_no_lock Solid = true
is_no_lock Any = true
is_no_lock (Held l) = true
is_no_lock tag = false

-- a form of call that is none of the known ones, or a lock call on what is no lock
abbrev pub is_wrong_call : Option Act → List Tag → Bool
is_wrong_call (Some (Call by Wrong arguments gives)) row = true
is_wrong_call (Some (Call by usage arguments gives)) row = is_lock_call usage && is_no_lock (tag_in row (receiver_of arguments))
is_wrong_call act row = false

-- ---- stores of new locks to field l
abbrev pub stores_new : ℕ → Option Act → List Tag → Bool
stores_new l (Some (WriteSlot from slot throws)) row = is_slot l slot && is_new (tag_in row from)
stores_new l act row = false
