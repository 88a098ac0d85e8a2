-- Calls: lock calls, where another call leads, and what it answers or enters.
use Rattle.std.specs.Prelude.{ℕ, zero, suc, Bool, true, false, not, ◌&&◌, nat_le, if◌then◌else◌, List, [], ◌∷◌, length, Option, Some, None, slice_get}
use Rattle.ns_base.specs.declared.rows.TypeNo.{TypeNo}
use Rattle.dalvik.specs.declared.ins.Args.{Args}
use Rattle.dalvik.specs.Calls.{args_len, arg_at, argument_of}
use Rattle.dalvik.specs.Registers.{args_of}
use Rattle.app_model.specs.declared.rows.MethodRow.{MethodRow}
use Rattle.app_model.specs.declared.rows.Named.{Named}
use Rattle.app_model.specs.declared.lock_use.LockUse.{LockUse}
use Rattle.app_model.specs.declared.lock_use.LockUse.TheVariants.{Make}
use Rattle.app_model.specs.Hierarchy.{may_be_sub}
use Rattle.app_model.specs.Masks.{any_below}
use Rattle.app_model.specs.Parts.{AppParts}
use Rattle.app_model.specs.Sites.{site_at}
use Rattle.app_model.specs.Targets.{found_on, is_on_array, is_plain}
use Rattle.app_model.specs.Words.{named_at}
use Rattle.app_model.specs.declared.calls.By.{By}
use Rattle.app_model.specs.declared.calls.By.TheVariants.{Virtual, Super, Direct, Static}
use Rattle.act_model.specs.declared.act.Gives.{Gives}
use Rattle.act_model.specs.declared.act.LockOp.{LockOp}
use Rattle.act_model.specs.declared.act.LockOp.TheVariants.{Acquire, Release, IsHeld, Mode}
use Rattle.act_model.specs.Acts.{op_of}
use Rattle.act_model.specs.Entries.{entry_row}
use Rattle.run_model.specs.Choices.{Choices, Single, Then, ForEach}
use Rattle.run_model.specs.Heaps.{Value, Zero, Nonzero, Object, LockRef, held_value, is_lock, is_null, is_owned, lock_at, with_new, with_count, with_mode}
use Rattle.run_model.specs.Frames.{Frame, State, answers_of, Here, with_heap, register, answers, throws_from, Stuck, Escape, Running, Over}

-- the receiver: the first argument; a call without arguments has none
abbrev pub first_in : Frame → List ℕ → Option Value
first_in f [] = None
first_in f (r ∷ rs) = register f r

abbrev pub receiver_in : Frame → Args → Option Value
receiver_in f arguments = first_in f (args_of arguments)

abbrev pub is_lock_in : Option Value → Bool
is_lock_in None = false
is_lock_in (Some v) = is_lock v

-- an argument of that number or a later one is a lock
abbrev pub gives_lock : Frame → Args → ℕ → Bool
gives_lock f arguments from = any_below (λ k. nat_le from k && is_lock_in (register f (arg_at arguments k))) (args_len arguments)

-- release: of a counted lock one less, of another all
abbrev pub release_options : Here → ℕ → Bool → ℕ → Choices State
release_options here i true zero = throws_from here
release_options here i true (suc n) = Single (answers (with_heap here (with_count here.heap i n)) Zero)
release_options here i false n = Single (answers (with_heap here (with_count here.heap i 0)) Zero)

-- setReferenceCounted
abbrev pub mode_options : Here → ℕ → Option Value → Choices State
mode_options here i None = Single (Over Stuck)
mode_options here i (Some v) = Single (answers (with_heap here (with_mode here.heap i (not (is_null v)))) Zero)

-- a lock call on lock i, which a field owns
abbrev pub operation_options : Here → LockOp → Args → ℕ → Choices State
operation_options here Acquire arguments i =
    Single (answers (with_heap here (with_count here.heap i (suc (lock_at here.heap i).count))) Zero)
operation_options here Release arguments i = release_options here i (lock_at here.heap i).counted (lock_at here.heap i).count
operation_options here IsHeld arguments i = Single (answers here (held_value (lock_at here.heap i).count))
operation_options here Mode arguments i = mode_options here i (register here.frame (argument_of arguments))

-- a lock call by its receiver
abbrev pub lock_call_options : Here → LockOp → Args → Option Value → Choices State
lock_call_options here op arguments None = Single (Over Stuck)
lock_call_options here op arguments (Some Zero) = throws_from here
lock_call_options here op arguments (Some Nonzero) = Single (Over Stuck)
lock_call_options here op arguments (Some (Object type)) = Single (Over Stuck)
lock_call_options here op arguments (Some (LockRef i)) =
    if is_owned (lock_at here.heap i).owner then operation_options here op arguments i else Single (Over Escape)

-- what another call answers: newWakeLock a new lock, every other one what the outside gives
abbrev pub answer_options : Here → LockUse → Gives → Choices State
answer_options here Make given =
    Single
    (answers (with_heap here (with_new here.heap (site_at here.subject.app here.frame.method here.frame.index)))
    (LockRef (length here.heap.locks)))
answer_options here usage given = ForEach (answers_of here.subject.app given) (answers here)

abbrev pub outside_answers : Here → LockUse → Gives → Choices State
outside_answers here usage given = Then (answer_options here usage given) (throws_from here)

-- ---- where a call leads: into a method of the application, or outside
pub data Target : Type 0 where
  Enters : (n : ℕ) → Target
  GoesOutside : Target
  IsStuck : Target

-- an object of that type may be the receiver; by its type the virtual and interface calls go alone
abbrev pub may_receive : AppParts → By → Named → (type : Option ℕ) → Bool
may_receive app Virtual named type = may_be_sub app type named.class.0
may_receive app Super named type = true
may_receive app Direct named type = true
may_receive app Static named type = true

-- the method that a call in method m finds by the type of its receiver
abbrev pub found_for : AppParts → (m : ℕ) → By → Named → (type : Option ℕ) → Option ℕ
found_for app m Virtual named (Some t) = found_on app m Virtual named t
found_for app m Virtual named None = None
found_for app m Super named type = found_on app m Super named 0
found_for app m Direct named type = found_on app m Direct named 0
found_for app m Static named type = found_on app m Static named 0

abbrev pub found_target : Option ℕ → Target
found_target None = GoesOutside
found_target (Some n) = Enters n

-- a call on an array takes every object, and a lock instruction enters no method
abbrev pub named_target : AppParts → (m : ℕ) → By → LockUse → Named → (type : Option ℕ) → Target
named_target app m by usage named type =
    if is_on_array app named then GoesOutside
    else (if not (may_receive app by named type) then IsStuck
    else (if is_plain usage then found_target (found_for app m by named type) else GoesOutside))

abbrev pub target_of : AppParts → (m : ℕ) → By → LockUse → Option Named → (type : Option ℕ) → Target
target_of app m by usage None type = IsStuck
target_of app m by usage (Some named) type = named_target app m by usage named type

-- the words of a call, as they stand in the caller's registers
abbrev pub with_word : Option Value → Option (List Value) → Option (List Value)
with_word None words = None
with_word (Some v) None = None
with_word (Some v) (Some words) = Some (v ∷ words)

abbrev pub values_of : Frame → List ℕ → Option (List Value)
values_of f [] = Some []
values_of f (r ∷ rs) = with_word (register f r) (values_of f rs)

-- the registers with which a method begins
abbrev pub entry_values : Option MethodRow → (words : List Value) → List Value
entry_values None words = []
entry_values (Some method) words = entry_row Zero method.registers method.ins words

abbrev pub entered_frame : ℕ → List Value → Frame
entered_frame m registers = record { method = m; index = 0; registers = registers }

-- the frame of method n comes before that of the call, which waits
abbrev pub enters : Here → ℕ → (words : Option (List Value)) → State
enters here n None = Over Stuck
enters here n (Some words) =
    Running here.callback here.heap (entered_frame n (entry_values (slice_get here.subject.app.methods n) words) ∷ here.frame ∷ here.rest)

abbrev pub target_options : Here → LockUse → Args → Gives → Target → Choices State
target_options here usage arguments given (Enters n) = Single (enters here n (values_of here.frame (args_of arguments)))
target_options here usage arguments given GoesOutside = outside_answers here usage given
target_options here usage arguments given IsStuck = Single (Over Stuck)

-- on an object of a type; a static call is on none
abbrev pub invoke_options : Here → By → LockUse → Args → Gives → (type : Option ℕ) → Choices State
invoke_options here by usage arguments given type =
    target_options here usage arguments given
    (target_of here.subject.app here.frame.method by usage (named_at here.subject.app here.frame.method here.frame.index) type)

-- by the receiver, which is no lock
abbrev pub receiver_options : Here → By → LockUse → Args → Gives → Option Value → Choices State
receiver_options here by usage arguments given None = Single (Over Stuck)
receiver_options here by usage arguments given (Some Zero) = throws_from here
receiver_options here by usage arguments given (Some Nonzero) = Single (Over Stuck)
receiver_options here by usage arguments given (Some (LockRef i)) = Single (Over Stuck)
receiver_options here by usage arguments given (Some (Object type)) = invoke_options here by usage arguments given type

abbrev pub plain_call_options : Here → By → LockUse → Args → Gives → Choices State
plain_call_options here Static usage arguments given = invoke_options here Static usage arguments given None
plain_call_options here Virtual usage arguments given = receiver_options here Virtual usage arguments given (receiver_in here.frame arguments)
plain_call_options here Super usage arguments given = receiver_options here Super usage arguments given (receiver_in here.frame arguments)
plain_call_options here Direct usage arguments given = receiver_options here Direct usage arguments given (receiver_in here.frame arguments)

-- setReferenceCounted without an argument
abbrev pub lacks_argument : LockOp → Option Value → Bool
lacks_argument Mode None = true
lacks_argument Mode (Some v) = false
lacks_argument Acquire argument = false
lacks_argument Release argument = false
lacks_argument IsHeld argument = false

abbrev pub full_lock_call_options : Here → LockOp → Args → Choices State
full_lock_call_options here op arguments =
    if lacks_argument op (register here.frame (argument_of arguments))
    then Single (Over Stuck) else lock_call_options here op arguments (receiver_in here.frame arguments)

-- a lock may be the receiver of a lock call, and no other argument of a call
abbrev pub call_by_op : Here → By → LockUse → Args → Gives → Option LockOp → Choices State
call_by_op here by usage arguments given (Some op) =
    if gives_lock here.frame arguments 1
    then Single (Over Escape) else full_lock_call_options here op arguments
call_by_op here by usage arguments given None =
    if gives_lock here.frame arguments 0
    then Single (Over Escape) else plain_call_options here by usage arguments given

abbrev pub call_options : Here → By → LockUse → Args → Gives → Choices State
call_options here by usage arguments given = call_by_op here by usage arguments given (op_of usage)

-- an array of its arguments, in the result cell
abbrev pub fill_options : Here → Args → TypeNo → Choices State
fill_options here arguments kind =
    if gives_lock here.frame arguments 0 then Single (Over Escape) else Single (answers here (Object (Some kind.0)))
