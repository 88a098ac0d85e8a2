-- Small applications, and what is seen of runs of them.
use Rattle.std.specs.Prelude.{ℕ, ◌≡◌, pos, true, List, [], ◌∷◌, ◌++◌, length, map, replicate, Option, Some, None, codes, option_map, Option}
use Rattle.std.specs.List.{range_with_len}
use Rattle.ns_base.specs.declared.rows.ComponentNo.{ComponentNo}
use Rattle.ns_base.specs.declared.rows.MethodNo.{MethodNo}
use Rattle.ns_base.specs.declared.rows.TypeNo.{TypeNo}
use Rattle.dalvik.specs.declared.body.Place.{Place}
use Rattle.dalvik.specs.declared.ins.Args.TheVariants as args
use Rattle.dalvik.specs.declared.ins.Ins.{Ins}
use Rattle.dalvik.specs.declared.ins.Ins.TheVariants as ins
use Rattle.dalvik.specs.declared.opcode.TheConstants.{AGET_WIDE, APUT_OBJECT, CONST_4, DIV_INT, DIV_INT_LIT8, IF_EQZ, IF_NEZ, INVOKE_STATIC, INVOKE_SUPER, INVOKE_VIRTUAL, IPUT, IPUT_OBJECT, MONITOR_ENTER, MOVE_RESULT_OBJECT, MOVE_WIDE, PACKED_SWITCH, RETURN, SGET_OBJECT, SPUT_OBJECT}
use Rattle.app_model.specs.declared.component.Kind.TheVariants.{Receiver, Runnable, Service}
use Rattle.app_model.specs.declared.rows.MethodRow.{MethodRow}
use Rattle.app_model.specs.declared.rows.Operand.{Operand}
use Rattle.app_model.specs.declared.rows.Operand.TheVariants as operand
use Rattle.app_model.specs.Components.{ComponentParts}
use Rattle.app_model.specs.Names.{power_manager_name, string_name, wake_lock_name}
use Rattle.app_model.specs.Parts.{AppParts, ClassParts, ProtoParts}
use Rattle.app_model.specs.Subject.{SubjectParts, slot_count}
use Rattle.run_model.specs.Heaps.{Value, Zero, Nonzero, Object, Heap, status}
use Rattle.run_model.specs.Frames.{Frame, Reason, State, Idle, Running, AtEnd, Over, Uncaught, Stuck, Escape}
use Rattle.run_model.specs.Machine.{count_of, option_at, options_of, run_of, start_of}

-- ---- what is seen of a state: the components' states or the instruction and its registers, and the lock fields' statuses
pub data Sight : Type 0 where
  Rests : (states statuses : List ℕ) → Sight
  Stands : (index : ℕ) (registers : List Value) (statuses : List ℕ) → Sight
  Ends : (states statuses : List ℕ) → Sight
  Breaks : (why : Reason) → Sight

abbrev pub statuses_of : SubjectParts → Heap → List ℕ
statuses_of x h = map (status h) (range_with_len 0 (slot_count x))

abbrev pub sight_of : SubjectParts → State → Sight
sight_of x (Idle states h) = Rests states (statuses_of x h)
sight_of x (Running at h []) = Breaks Stuck
sight_of x (Running at h (f ∷ rest)) = Stands f.index f.registers (statuses_of x h)
sight_of x (AtEnd at h) = Ends at.states (statuses_of x h)
sight_of x (Over why) = Breaks why

-- the state in which a run stands; and what may come next there, in order
unfoldable pub seen : SubjectParts → List ℕ → Sight
seen x choices = sight_of x (run_of x choices)

unfoldable pub next_seen : SubjectParts → List ℕ → List Sight
next_seen x choices = map (sight_of x) (options_of x (run_of x choices))

-- ---- rows
abbrev pub type : ℕ → TypeNo
type t = record { 0 = t }

abbrev pub proto : (result : ℕ) → List TypeNo → ProtoParts
proto result params = record { result = type result; params = params }

abbrev pub class_below : (name parent : ℕ) → List TypeNo → ClassParts
class_below name parent interfaces = record { name = type name; parent = Some (type parent); interfaces = interfaces; flags = 1 }

abbrev pub method_of : (class name proto registers ins : ℕ) → MethodRow
method_of class name proto registers words =
    record { class = record { 0 = class }; name = record { 0 = name }; proto = record { 0 = proto }; flags = 1; registers = registers; ins = words }

-- a throw can come to the handlers, and leave
abbrev pub place : (pc : ℕ) → Ins → (successors handlers : List ℕ) → Place
place pc instruction successors handlers = record { pc = pc; ins = instruction; successors = successors; handlers = handlers; leaves = true }

abbrev pub calls : (class name proto : ℕ) → Operand
calls class name proto = operand.Invoke (record { class = type class; name = record { 0 = name }; proto = record { 0 = proto } })

abbrev pub accesses : (class name kind : ℕ) → Operand
accesses class name kind = operand.Access (record { class = type class; name = record { 0 = name }; kind = type kind })

abbrev pub some_method : ℕ → Option MethodNo
some_method m = Some (record { 0 = m })

-- ---- one method without a lock field: run() of a Runnable, of which no instruction names a method or a field;
-- it has four registers, of which the last one is its object
abbrev pub plain_app : List Place → AppParts
plain_app places = record {
  types = codes "Lapp/T;" ∷ codes "Ljava/lang/Object;" ∷ codes "Ljava/lang/Runnable;" ∷ codes "V" ∷ [];
  names = codes "run" ∷ [];
  protos = proto 3 [] ∷ [];
  classes = class_below 0 1 (type 2 ∷ []) ∷ [];
  methods = method_of 0 0 0 4 1 ∷ [];
  fields = [];
  locks = [];
  code = record { registers = 4; places = places } ∷ [];
  operands = replicate (length places) operand.Plain ∷ [];
}

-- the tags and the graph are read by no run
abbrev pub subject : AppParts → List ComponentParts → (owners : List (Option ComponentNo)) → SubjectParts
subject app list owners = record { app = app; list = list; graph = record { sets = []; uses = [] }; tags = record { registers = []; cells = [] }; reached = []; answers = []; owners = owners }

-- the code begins at its first instruction, and there may be another one behind it and one at its handler, which return
unfoldable pub plain : List Place → SubjectParts
plain places = subject (plain_app places) (record { class = record { 0 = 0 }; kind = Runnable; exits = 1; methods = some_method 0 ∷ [] } ∷ []) []

abbrev pub returning : (pc : ℕ) → Place
returning pc = place pc ins.ReturnVoid [] []

-- three registers, then the object and the empty result
abbrev pub values : (first second third : Value) → List Value
values first second third = first ∷ second ∷ third ∷ Object (Some 0) ∷ Zero ∷ []

abbrev pub at_start : List Value
at_start = values Zero Zero Zero

-- an instruction, whose handler is the second return
abbrev pub alone : Ins → SubjectParts
alone instruction = plain (place 0 instruction (1 ∷ []) (2 ∷ []) ∷ returning 2 ∷ returning 3 ∷ [])

abbrev pub after_one : Ins → List Sight
after_one instruction = next_seen (alone instruction) (0 ∷ [])

abbrev pub throws : List Sight
throws = Stands 2 at_start [] ∷ Breaks Uncaught ∷ []

-- a division of registers throws or gives a number; one by the number 2 never throws
abbrev pub DivisionThrows : Type 0
DivisionThrows = after_one (ins.Binary DIV_INT 0 1 2) ≡ Stands 1 (values Zero Zero Zero) [] ∷ Stands 1 (values Nonzero Zero Zero) [] ∷ throws

abbrev pub DivisionByTwo : Type 0
DivisionByTwo = after_one (ins.BinaryLiteral DIV_INT_LIT8 0 1 (pos 2)) ≡ Stands 1 (values Zero Zero Zero) [] ∷ Stands 1 (values Nonzero Zero Zero) [] ∷ []

-- the two halves of a wide read are free, each by itself
abbrev pub WideRead : Type 0
WideRead = after_one (ins.ArrayGet AGET_WIDE 0 2 2)
    ≡ Stands 1 (values Zero Zero Zero) [] ∷ Stands 1 (values Zero Nonzero Zero) [] ∷ Stands 1 (values Nonzero Zero Zero) [] ∷ Stands 1 (values Nonzero Nonzero Zero) [] ∷ throws

-- monitor-enter throws on null alone, and so does a store to a field of an object
abbrev pub MonitorOnNull : Type 0
MonitorOnNull = after_one (ins.Monitor MONITOR_ENTER 0) ≡ throws

abbrev pub MonitorOnObject : Type 0
MonitorOnObject = after_one (ins.Monitor MONITOR_ENTER 3) ≡ Stands 1 at_start [] ∷ []

abbrev pub StoreToNull : Type 0
StoreToNull = after_one (ins.FieldPut IPUT 0 1 0) ≡ throws

abbrev pub StoreToObject : Type 0
StoreToObject = after_one (ins.FieldPut IPUT 0 3 0) ≡ Stands 1 at_start [] ∷ []

-- a switch goes by each of its successors
abbrev pub SwitchGoes : Type 0
SwitchGoes = next_seen (plain (place 0 (ins.Switch PACKED_SWITCH 0 (pos 8)) (1 ∷ 2 ∷ 3 ∷ []) [] ∷ returning 3 ∷ returning 4 ∷ returning 5 ∷ [])) (0 ∷ [])
    ≡ Stands 1 at_start [] ∷ Stands 2 at_start [] ∷ Stands 3 at_start [] ∷ []

-- a free number, and a test on it: the second place follows it, the third one is the target
abbrev pub testing : (op : ℕ) → SubjectParts
testing op = plain (place 0 (ins.InstanceOf 0 3 0) (1 ∷ []) [] ∷ place 2 (ins.IfZero op 0 (pos 3)) (2 ∷ 3 ∷ []) [] ∷ returning 4 ∷ returning 5 ∷ [])

abbrev pub after_test : (op choice : ℕ) → List Sight
after_test op choice = next_seen (testing op) (0 ∷ choice ∷ [])

abbrev pub ZeroBranches : Type 0
ZeroBranches = (after_test IF_EQZ 0 ∷ after_test IF_NEZ 0 ∷ []) ≡ (Stands 3 at_start [] ∷ []) ∷ (Stands 2 at_start [] ∷ []) ∷ []

abbrev pub NonzeroBranches : Type 0
NonzeroBranches = (after_test IF_EQZ 1 ∷ after_test IF_NEZ 1 ∷ [])
    ≡ (Stands 2 (values Nonzero Zero Zero) [] ∷ []) ∷ (Stands 3 (values Nonzero Zero Zero) [] ∷ []) ∷ []

-- the pair of registers 0 and 1 is zero and another number, and is copied up or down by one register
abbrev pub copying : (to from : ℕ) → SubjectParts
copying to from = plain (place 0 (ins.Const CONST_4 1 (pos 1)) (1 ∷ []) [] ∷ place 1 (ins.Move MOVE_WIDE to from) (2 ∷ []) [] ∷ returning 2 ∷ [])

abbrev pub CopyUp : Type 0
CopyUp = next_seen (copying 1 0) (0 ∷ 0 ∷ []) ≡ Stands 2 (values Zero Zero Nonzero) [] ∷ []

abbrev pub CopyDown : Type 0
CopyDown = next_seen (copying 0 1) (0 ∷ 0 ∷ []) ≡ Stands 2 (values Nonzero Zero Zero) [] ∷ []

-- ---- a receiver with a lock field, and a service that releases its lock
-- a lock is made by the power manager of another field, stored by the given instruction and acquired
abbrev pub making : (store : Ins) → List Place
making store =
    place 0 (ins.StaticGet SGET_OBJECT 1 1) (1 ∷ []) []
    ∷ place 2 (ins.Invoke INVOKE_VIRTUAL 0 (args.List 3 (1 ∷ 0 ∷ 0 ∷ 0 ∷ 0 ∷ []))) (2 ∷ []) []
    ∷ place 5 (ins.MoveResult MOVE_RESULT_OBJECT 0) (3 ∷ []) []
    ∷ place 6 store (4 ∷ []) []
    ∷ place 8 (ins.Invoke INVOKE_VIRTUAL 1 (args.List 1 (0 ∷ 0 ∷ 0 ∷ 0 ∷ 0 ∷ []))) (5 ∷ []) []
    ∷ []

-- the lock field
abbrev pub the_lock : Operand
the_lock = accesses 0 2 3

abbrev pub making_names : (stored : Operand) → List Operand
making_names stored = accesses 0 3 2 ∷ calls 2 4 2 ∷ operand.Plain ∷ stored ∷ calls 3 5 0 ∷ []

abbrev pub releasing : List Place
releasing =
    place 0 (ins.StaticGet SGET_OBJECT 0 0) (1 ∷ []) []
    ∷ place 2 (ins.IfZero IF_EQZ 0 (pos 5)) (2 ∷ 3 ∷ []) []
    ∷ place 4 (ins.Invoke INVOKE_VIRTUAL 2 (args.List 1 (0 ∷ 0 ∷ 0 ∷ 0 ∷ 0 ∷ []))) (3 ∷ []) []
    ∷ returning 7
    ∷ []

abbrev pub releasing_names : List Operand
releasing_names = the_lock ∷ operand.Plain ∷ calls 3 6 0 ∷ operand.Plain ∷ []

-- R.onReceive(Context, Intent) has that code and then the given one, S.onCreate() releases
abbrev pub lock_app : (flags : ℕ) → List Place → List Operand → AppParts
lock_app flags places names = record {
  types = codes "Lapp/R;" ∷ codes "Lapp/S;" ∷ power_manager_name ∷ wake_lock_name ∷ codes "I" ∷ string_name ∷ codes "V" ∷ codes "Landroid/content/Context;" ∷ codes "Landroid/content/Intent;" ∷ codes "Landroid/content/BroadcastReceiver;" ∷ codes "Landroid/app/Service;" ∷ [];
  names = codes "onReceive" ∷ codes "onCreate" ∷ codes "lock" ∷ codes "power" ∷ codes "newWakeLock" ∷ codes "acquire" ∷ codes "release" ∷ [];
  protos = proto 6 [] ∷ proto 6 (type 7 ∷ type 8 ∷ []) ∷ proto 3 (type 4 ∷ type 5 ∷ []) ∷ [];
  classes = class_below 0 9 [] ∷ class_below 1 10 [] ∷ [];
  methods = method_of 0 0 1 5 3 ∷ method_of 1 1 0 2 1 ∷ [];
  fields = record { class = record { 0 = 0 }; name = record { 0 = 2 }; kind = type 3; flags = flags } ∷ record { class = record { 0 = 0 }; name = record { 0 = 3 }; kind = type 2; flags = 8 } ∷ [];
  locks = record { 0 = 0 } ∷ [];
  code = record { registers = 5; places = places } ∷ record { registers = 2; places = releasing } ∷ [];
  operands = names ∷ releasing_names ∷ [];
}

abbrev pub receiver : ComponentParts
receiver = record { class = record { 0 = 0 }; kind = Receiver; exits = 1; methods = some_method 0 ∷ [] }

abbrev pub service : ComponentParts
service = record { class = record { 0 = 1 }; kind = Service; exits = 64; methods = some_method 1 ∷ None ∷ None ∷ None ∷ None ∷ None ∷ None ∷ [] }

abbrev pub in_static : Ins
in_static = ins.StaticPut SPUT_OBJECT 0 0

abbrev pub leaking_app : AppParts
leaking_app = lock_app 8 (making in_static ++ returning 11 ∷ []) (making_names the_lock ++ operand.Plain ∷ [])

abbrev pub release_before : (pc next : ℕ) → Place
release_before pc next = place pc (ins.Invoke INVOKE_VIRTUAL 2 (args.List 1 (0 ∷ 0 ∷ 0 ∷ 0 ∷ 0 ∷ []))) (next ∷ []) []

-- the receiver alone; with a release, and with two; with an instance field, which it owns
unfoldable pub leaking : SubjectParts
leaking = subject leaking_app (receiver ∷ []) (None ∷ [])

unfoldable pub working : SubjectParts
working = subject (lock_app 8 (making in_static ++ release_before 11 6 ∷ returning 14 ∷ []) (making_names the_lock ++ calls 3 6 0 ∷ operand.Plain ∷ [])) (receiver ∷ []) (None ∷ [])

unfoldable pub failing : SubjectParts
failing = subject
    (lock_app 8 (making in_static ++ release_before 11 6 ∷ release_before 14 7 ∷ returning 17 ∷ []) (making_names the_lock ++ calls 3 6 0 ∷ calls 3 6 0 ∷ operand.Plain ∷ []))
    (receiver ∷ []) (None ∷ [])

unfoldable pub owning : SubjectParts
owning = subject (lock_app 0 (making (ins.FieldPut IPUT_OBJECT 0 2 0) ++ returning 11 ∷ []) (making_names the_lock ++ operand.Plain ∷ [])) (receiver ∷ []) (Some (record { 0 = 0 }) ∷ [])

-- its lock goes to an array in place of the field
unfoldable pub giving : SubjectParts
giving = subject (lock_app 8 (making (ins.ArrayPut APUT_OBJECT 0 1 0) ++ returning 11 ∷ []) (making_names operand.Plain ++ operand.Plain ∷ [])) (receiver ∷ []) (None ∷ [])

-- the receiver and the service
unfoldable pub pair : SubjectParts
pair = subject leaking_app (receiver ∷ service ∷ []) (None ∷ [])

-- the callback starts with null arguments, the other field holds a power manager, and no call throws
abbrev pub acquired : List ℕ
acquired = 0 ∷ 3 ∷ 0 ∷ 0 ∷ 0 ∷ 0 ∷ []

abbrev pub received : List ℕ
received = acquired ++ 0 ∷ []

abbrev pub LeavesHeld : Type 0
LeavesHeld = seen leaking received ≡ Ends (0 ∷ []) (2 ∷ [])

abbrev pub LeavesFree : Type 0
LeavesFree = seen working (acquired ++ 0 ∷ 0 ∷ []) ≡ Ends (0 ∷ []) (1 ∷ [])

-- a release of a lock whose count is zero throws
abbrev pub ReleaseThrows : Type 0
ReleaseThrows = next_seen failing (acquired ++ 0 ∷ 0 ∷ []) ≡ Breaks Uncaught ∷ []

abbrev pub LockEscapes : Type 0
LockEscapes = next_seen giving (0 ∷ 3 ∷ 0 ∷ 0 ∷ []) ≡ Breaks Escape ∷ Breaks Uncaught ∷ []

-- newWakeLock throws
abbrev pub MakingThrows : Type 0
MakingThrows = seen leaking (0 ∷ 3 ∷ 1 ∷ []) ≡ Breaks Uncaught

-- a second callback stores another new lock: the first one is lost
abbrev pub LosesLock : Type 0
LosesLock = seen leaking (received ++ 0 ∷ received) ≡ Ends (0 ∷ []) (7 ∷ [])

-- the second one begins with the lock of a static field, and without that of a field that its component owns
abbrev pub after_start : List Value
after_start = Zero ∷ Zero ∷ Object (Some 0) ∷ Zero ∷ Zero ∷ Zero ∷ []

abbrev pub KeepsStatic : Type 0
KeepsStatic = seen leaking (received ++ 0 ∷ 0 ∷ []) ≡ Stands 0 after_start (2 ∷ [])

abbrev pub ClearsOwned : Type 0
ClearsOwned = seen owning (received ++ 0 ∷ 0 ∷ []) ≡ Stands 0 after_start (7 ∷ [])

-- the receiver may start with 13 values of each argument; after these starts comes that of the service
abbrev pub served : List ℕ
served = 169 ∷ 0 ∷ 0 ∷ 0 ∷ []

abbrev pub ReceiverFirst : Type 0
ReceiverFirst = seen pair (received ++ 0 ∷ served ++ 0 ∷ []) ≡ Ends (0 ∷ 1 ∷ []) (1 ∷ [])

abbrev pub ServiceFirst : Type 0
ServiceFirst = seen pair (served ++ 0 ∷ received) ≡ Ends (0 ∷ 1 ∷ []) (2 ∷ [])

-- the service's other callbacks are outside: they are at their end at once
abbrev pub OutsideEnds : Type 0
OutsideEnds = (seen pair (served ++ 0 ∷ 169 ∷ []) ∷ seen pair (served ++ 0 ∷ 174 ∷ []) ∷ []) ≡ Ends (0 ∷ 1 ∷ []) (0 ∷ []) ∷ Ends (0 ∷ 0 ∷ []) (0 ∷ []) ∷ []

-- ---- calls of methods of the application
-- the methods that run: the innermost first
abbrev pub methods_of : State → List ℕ
methods_of (Running at h frames) = map (λ (f : Frame). f.method) frames
methods_of (Idle states h) = []
methods_of (AtEnd at h) = []
methods_of (Over why) = []

unfoldable pub methods_seen : SubjectParts → List ℕ → List ℕ
methods_seen x choices = methods_of (run_of x choices)

-- T.run() has the given code. T.pick is static and returns the first of its two arguments, T.fail() throws; B is an A and
-- calls its superclass, and the superclass of C is outside
abbrev pub call_app : List Place → List Operand → AppParts
call_app places names = record {
  types = codes "Lapp/T;" ∷ codes "Ljava/lang/Object;" ∷ codes "Ljava/lang/Runnable;" ∷ codes "V" ∷ codes "I" ∷ codes "Lapp/A;" ∷ codes "Lapp/B;" ∷ codes "Lapp/C;" ∷ codes "Lout/Base;" ∷ [];
  names = codes "run" ∷ codes "pick" ∷ codes "fail" ∷ codes "get" ∷ [];
  protos = proto 3 [] ∷ proto 4 (type 4 ∷ type 4 ∷ []) ∷ proto 4 [] ∷ [];
  classes = class_below 0 1 (type 2 ∷ []) ∷ class_below 5 1 [] ∷ class_below 6 5 [] ∷ class_below 7 8 [] ∷ [];
  methods = method_of 0 0 0 4 1 ∷ method_of 0 1 1 3 2 ∷ method_of 0 2 0 1 0 ∷ method_of 1 3 2 1 1 ∷ method_of 2 3 2 2 1 ∷ [];
  fields = [];
  locks = [];
  code = record { registers = 4; places = places } ∷ record { registers = 3; places = place 0 (ins.Return RETURN 1) [] [] ∷ [] }
      ∷ record { registers = 1; places = place 0 (ins.Throw 0) [] [] ∷ [] } ∷ record { registers = 1; places = place 0 (ins.Return RETURN 0) [] [] ∷ [] }
      ∷ record { registers = 2; places = place 0 (ins.Invoke INVOKE_SUPER 0 (args.Range 1 1)) (1 ∷ []) [] ∷ place 3 (ins.Return RETURN 0) [] [] ∷ [] } ∷ [];
  operands = names ∷ (operand.Plain ∷ []) ∷ (operand.Plain ∷ []) ∷ (operand.Plain ∷ []) ∷ (calls 5 3 2 ∷ operand.Plain ∷ []) ∷ [];
}

-- an instruction, and then a call, of which a throw can come to the second return
unfoldable pub calling : (first call : Ins) (named : Operand) → SubjectParts
calling first call named = subject
    (call_app (place 0 first (1 ∷ []) [] ∷ place 2 call (2 ∷ []) (3 ∷ []) ∷ returning 5 ∷ returning 6 ∷ []) (operand.Plain ∷ named ∷ operand.Plain ∷ operand.Plain ∷ []))
    (record { class = record { 0 = 0 }; kind = Runnable; exits = 1; methods = some_method 0 ∷ [] } ∷ []) []

-- the first register is another number than zero, and the words of the call are it, the second register and it again
abbrev pub static_call : SubjectParts
static_call = calling (ins.Const CONST_4 0 (pos 1)) (ins.Invoke INVOKE_STATIC 1 (args.List 3 (0 ∷ 1 ∷ 0 ∷ 0 ∷ 0 ∷ []))) (calls 0 1 1)

-- the last word has no register
abbrev pub StaticCall : Type 0
StaticCall = next_seen static_call (0 ∷ 0 ∷ []) ≡ Stands 0 (Zero ∷ Nonzero ∷ Zero ∷ Zero ∷ []) [] ∷ []

-- what the method returns is in the caller's result cell, behind the call
abbrev pub StaticReturn : Type 0
StaticReturn = next_seen static_call (0 ∷ 0 ∷ 0 ∷ []) ≡ Stands 2 (Nonzero ∷ Zero ∷ Zero ∷ Object (Some 0) ∷ Nonzero ∷ []) [] ∷ []

-- a throw that leaves the method comes to the handler of the call, or leaves its method too
abbrev pub failing_call : SubjectParts
failing_call = calling ins.Nop (ins.Invoke INVOKE_STATIC 2 (args.Range 0 0)) (calls 0 2 0)

abbrev pub ThrowsThrough : Type 0
ThrowsThrough = next_seen failing_call (0 ∷ 0 ∷ 0 ∷ []) ≡ Stands 3 at_start [] ∷ Breaks Uncaught ∷ []

-- a call of A.get() on a new object of a type
abbrev pub getting : (made named : ℕ) → SubjectParts
getting made named = calling (ins.NewInstance 0 made) (ins.Invoke INVOKE_VIRTUAL 3 (args.Range 0 1)) (calls named 3 2)

abbrev pub new_object : ℕ → List Value
new_object made = values (Object (Some made)) Zero Zero

-- it is the method of the receiver's type, whichever class is named
abbrev pub PicksOverride : Type 0
PicksOverride = (methods_seen (getting 5 5) (0 ∷ 0 ∷ 0 ∷ []) ∷ methods_seen (getting 6 5) (0 ∷ 0 ∷ 0 ∷ []) ∷ []) ≡ (3 ∷ 0 ∷ []) ∷ (4 ∷ 0 ∷ []) ∷ []

-- which begins with the receiver in its last register, and calls that of its superclass
abbrev pub CallsSuper : Type 0
CallsSuper = (seen (getting 6 5) (0 ∷ 0 ∷ 0 ∷ []) ∷ seen (getting 6 5) (0 ∷ 0 ∷ 0 ∷ 0 ∷ []) ∷ [])
    ≡ Stands 0 (Zero ∷ Object (Some 6) ∷ Zero ∷ []) [] ∷ Stands 0 (Object (Some 6) ∷ Zero ∷ []) [] ∷ []

-- C has no such method, and nor has the application above it
abbrev pub LeadsOutside : Type 0
LeadsOutside = next_seen (getting 7 7) (0 ∷ 0 ∷ [])
    ≡ Stands 2 (new_object 7) [] ∷ Stands 2 (Object (Some 7) ∷ Zero ∷ Zero ∷ Object (Some 0) ∷ Nonzero ∷ []) [] ∷ Stands 3 (new_object 7) [] ∷ Breaks Uncaught ∷ []

-- no T is an A, and on null nothing is called
abbrev pub NoReceiver : Type 0
NoReceiver = next_seen (getting 0 5) (0 ∷ 0 ∷ []) ≡ Breaks Stuck ∷ []

abbrev pub NullReceiver : Type 0
NullReceiver = next_seen (calling ins.Nop (ins.Invoke INVOKE_VIRTUAL 3 (args.Range 0 1)) (calls 5 3 2)) (0 ∷ 0 ∷ []) ≡ Stands 3 at_start [] ∷ Breaks Uncaught ∷ []

-- without components the machine rests
unfoldable pub resting : SubjectParts
resting = subject leaking_app [] (None ∷ [])

abbrev pub RestsAlone : Type 0
RestsAlone = (next_seen resting [] ∷ next_seen resting (0 ∷ 7 ∷ []) ∷ []) ≡ (Rests [] (0 ∷ []) ∷ []) ∷ (Rests [] (0 ∷ []) ∷ []) ∷ []

-- ---- the starts of callbacks by number: 13 values of each argument of the receiver, and one start of the service
unfoldable pub starts_counted : SubjectParts → ℕ
starts_counted x = count_of x (start_of x)

unfoldable pub start_seen : SubjectParts → ℕ → Option Sight
start_seen x k = option_map (sight_of x) (option_at x (start_of x) k)

abbrev pub StartsCounted : Type 0
StartsCounted = starts_counted pair ≡ 170

-- the first argument varies slowest: number 15 is 1 and 2 in digits of 13
abbrev pub FirstSlowest : Type 0
FirstSlowest = start_seen pair 15 ≡ Some (Stands 0 (Zero ∷ Zero ∷ Object (Some 0) ∷ Object (Some 0) ∷ Object (Some 1) ∷ Zero ∷ []) (0 ∷ []))

abbrev pub NoSuchStart : Type 0
NoSuchStart = start_seen pair 170 ≡ None
