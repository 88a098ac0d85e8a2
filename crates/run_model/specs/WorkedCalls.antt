-- More small applications: lifecycles that come round, methods below a callback, and components that share a lock field.
use Rattle.std.specs.Prelude.{ℕ, ◌≡◌, pos, false, List, [], ◌∷◌, ◌++◌, map, take, Some, None, codes}
use Rattle.ns_base.specs.declared.rows.TypeNo.{TypeNo}
use Rattle.dalvik.specs.declared.body.Place.{Place}
use Rattle.dalvik.specs.declared.ins.Args.TheVariants as args
use Rattle.dalvik.specs.declared.ins.Ins.{Ins}
use Rattle.dalvik.specs.declared.ins.Ins.TheVariants as ins
use Rattle.dalvik.specs.declared.opcode.TheConstants.{IF_EQZ, IGET_OBJECT, INVOKE_STATIC, IPUT_OBJECT, SGET_OBJECT}
use Rattle.dalvik.specs.Body.{BodyRows}
use Rattle.app_model.specs.declared.component.Kind.TheVariants.{Activity, Receiver, Runnable, Service}
use Rattle.app_model.specs.declared.rows.MethodRow.{MethodRow}
use Rattle.app_model.specs.declared.rows.Operand.{Operand}
use Rattle.app_model.specs.declared.rows.Operand.TheVariants as operand
use Rattle.app_model.specs.Names.{power_manager_name, string_name, wake_lock_name}
use Rattle.app_model.specs.Parts.{AppParts, ClassParts}
use Rattle.app_model.specs.Subject.{SubjectParts}
use Rattle.run_model.specs.Heaps.{Value, Zero, Object, LockRef}
use Rattle.run_model.specs.Worked.{Stands, Ends, calls, class_below, in_static, making, making_names, method_of, methods_seen, next_seen, place, proto, release_before, releasing, releasing_names, returning, seen, some_method, subject, the_lock, type}

-- ---- what they share
-- a method with its code
pub record Part : Type 0 where
  pub method : MethodRow
  pub places : List Place
  pub operands : List Operand

abbrev pub with_code : MethodRow → List Place → List Operand → Part
with_code method places operands = record { method = method; places = places; operands = operands }

abbrev pub code_of : Part → BodyRows
code_of p = record { registers = p.method.registers; places = p.places }

-- the first type has the lock field and one with a power manager. Two types and two names come first, and others behind
-- those that locks need
abbrev pub app_with : (flags : ℕ) → (types names others more : List (List ℕ)) → (params : List TypeNo) → List ClassParts → List Part → AppParts
app_with flags types names others more params classes parts = record {
  types = types ++ power_manager_name ∷ wake_lock_name ∷ codes "I" ∷ string_name ∷ codes "V" ∷ others;
  names = names ++ codes "lock" ∷ codes "power" ∷ codes "newWakeLock" ∷ codes "acquire" ∷ codes "release" ∷ more;
  protos = proto 6 [] ∷ proto 6 params ∷ proto 3 (type 4 ∷ type 5 ∷ []) ∷ [];
  classes = classes;
  methods = map (λ (p : Part). p.method) parts;
  fields = record { class = record { 0 = 0 }; name = record { 0 = 2 }; kind = type 3; flags = flags } ∷ record { class = record { 0 = 0 }; name = record { 0 = 3 }; kind = type 2; flags = 8 } ∷ [];
  locks = record { 0 = 0 } ∷ [];
  code = map code_of parts;
  operands = map (λ (p : Part). p.operands) parts;
}

-- the start of that number of a callback that makes, stores and acquires a lock; it runs to its end
abbrev pub acquiring : ℕ → List ℕ
acquiring k = k ∷ 3 ∷ 0 ∷ 0 ∷ 0 ∷ 0 ∷ 0 ∷ 0 ∷ []

-- a callback outside, of that number
abbrev pub passing : ℕ → List ℕ
passing k = k ∷ 0 ∷ []

-- ---- an activity that acquires in onResume and releases in onRestart alone
abbrev pub releasing_own : List Place
releasing_own = place 0 (ins.FieldGet IGET_OBJECT 0 1 0) (1 ∷ []) [] ∷ place 2 (ins.IfZero IF_EQZ 0 (pos 5)) (2 ∷ 3 ∷ []) [] ∷ release_before 4 3 ∷ returning 7 ∷ []

unfoldable pub activity : SubjectParts
activity = subject
    (app_with 0 (codes "Lapp/A;" ∷ codes "Landroid/app/Activity;" ∷ []) (codes "onResume" ∷ codes "onRestart" ∷ []) [] [] [] (class_below 0 1 [] ∷ [])
    (with_code (method_of 0 0 0 3 1) (making (ins.FieldPut IPUT_OBJECT 0 2 0) ++ returning 11 ∷ []) (making_names the_lock ++ operand.Plain ∷ [])
    ∷ with_code (method_of 0 1 0 2 1) releasing_own releasing_names ∷ []))
    (record { class = record { 0 = 0 }; kind = Activity; exits = 64; methods = None ∷ None ∷ some_method 0 ∷ None ∷ None ∷ some_method 1 ∷ None ∷ [] } ∷ [])
    (Some (record { 0 = 0 }) ∷ [])

-- onCreate, onStart, onResume, onPause and onStop; and then onRestart, onStart and onStop
abbrev pub shown : List ℕ
shown = passing 0 ++ passing 0 ++ acquiring 0 ++ passing 0 ++ passing 1

abbrev pub shown_again : List ℕ
shown_again = shown ++ 0 ∷ 0 ∷ 0 ∷ 0 ∷ 0 ∷ 0 ∷ passing 0 ++ passing 1

-- the end of onDestroy: the first object is free, and the second one, which is not restarted, holds its lock
abbrev pub SecondHolds : Type 0
SecondHolds = map (seen activity) ((shown_again ++ 1 ∷ []) ∷ (shown_again ++ passing 1 ++ shown ++ 1 ∷ []) ∷ []) ≡ Ends (0 ∷ []) (1 ∷ []) ∷ Ends (0 ∷ []) (2 ∷ []) ∷ []

-- the second object begins without the lock that the first one holds, and at its end that one is held still
abbrev pub FirstIsLost : Type 0
FirstIsLost = map (seen activity) ((shown ++ 1 ∷ []) ∷ (shown ++ passing 1 ++ 0 ∷ []) ∷ (shown ++ passing 1 ++ passing 0 ++ 1 ∷ []) ∷ [])
    ≡ Ends (0 ∷ []) (2 ∷ []) ∷ Ends (1 ∷ []) (7 ∷ []) ∷ Ends (0 ∷ []) (7 ∷ []) ∷ []

-- ---- T.run() stores a lock in a static field and calls T.below(), which is static
abbrev pub calling_below : List Part → SubjectParts
calling_below parts = subject
    (app_with 8 (codes "Lapp/T;" ∷ codes "Ljava/lang/Object;" ∷ []) (codes "run" ∷ codes "below" ∷ []) (codes "Ljava/lang/Runnable;" ∷ []) (codes "last" ∷ []) [] (class_below 0 1 (type 7 ∷ []) ∷ []) parts)
    (record { class = record { 0 = 0 }; kind = Runnable; exits = 1; methods = some_method 0 ∷ [] } ∷ []) (None ∷ [])

abbrev pub static_call_of : (method : ℕ) → Ins
static_call_of method = ins.Invoke INVOKE_STATIC method (args.Range 0 0)

-- the lock is not acquired. A throw of the call comes to the second return of run() alone, and T.below() calls T.last(),
-- which releases
unfoldable pub throwing : SubjectParts
throwing = calling_below
    (with_code (method_of 0 0 0 3 1)
    (take 4 (making in_static) ++ record { pc = 8; ins = static_call_of 3; successors = 5 ∷ []; handlers = 6 ∷ []; leaves = false } ∷ returning 11 ∷ returning 12 ∷ [])
    (take 4 (making_names the_lock) ++ calls 0 1 0 ∷ operand.Plain ∷ operand.Plain ∷ [])
    ∷ with_code (method_of 0 1 0 0 0) (place 0 (static_call_of 4) (1 ∷ []) [] ∷ returning 3 ∷ []) (calls 0 7 0 ∷ operand.Plain ∷ [])
    ∷ with_code (method_of 0 7 0 1 0) (place 0 (ins.StaticGet SGET_OBJECT 0 0) (1 ∷ []) [] ∷ release_before 2 2 ∷ returning 5 ∷ []) (the_lock ∷ calls 3 6 0 ∷ operand.Plain ∷ []) ∷ [])

-- run() has the lock, the power manager and its object; the last one is its result cell
abbrev pub with_lock : (result : Value) → List Value
with_lock result = LockRef 0 ∷ Object (Some 2) ∷ Object (Some 0) ∷ result ∷ []

-- the lock is stored; and the two calls, up to the release in T.last()
abbrev pub stored : List ℕ
stored = 0 ∷ 3 ∷ 0 ∷ 0 ∷ 0 ∷ []

abbrev pub before_throw : List ℕ
before_throw = stored ++ 0 ∷ 0 ∷ 0 ∷ []

-- the throw leaves two methods
abbrev pub FramesLeft : Type 0
FramesLeft = map (methods_seen throwing) (before_throw ∷ (before_throw ++ 0 ∷ []) ∷ []) ≡ (2 ∷ 1 ∷ 0 ∷ []) ∷ (0 ∷ []) ∷ []

-- it comes to the handler in run() and to nothing else, with the registers and the status that were there before the call
abbrev pub CaughtAbove : Type 0
CaughtAbove = ((seen throwing stored ∷ []) ∷ (seen throwing before_throw ∷ []) ∷ next_seen throwing before_throw ∷ [])
    ≡ (Stands 4 (with_lock (LockRef 0)) (1 ∷ []) ∷ []) ∷ (Stands 1 (LockRef 0 ∷ Zero ∷ []) (1 ∷ []) ∷ []) ∷ (Stands 6 (with_lock (LockRef 0)) (1 ∷ []) ∷ []) ∷ []

-- the lock is acquired, and released behind the call; T.below() returns at once
unfoldable pub holding : SubjectParts
holding = calling_below
    (with_code (method_of 0 0 0 3 1) (making in_static ++ place 11 (static_call_of 3) (6 ∷ []) [] ∷ release_before 14 7 ∷ returning 17 ∷ []) (making_names the_lock ++ calls 0 1 0 ∷ calls 3 6 0 ∷ operand.Plain ∷ [])
    ∷ with_code (method_of 0 1 0 0 0) (returning 0 ∷ []) (operand.Plain ∷ []) ∷ [])

-- before the call, in it, behind it, and after the release
abbrev pub HeldOverCall : Type 0
HeldOverCall = map (λ later. seen holding (stored ++ 0 ∷ later)) ([] ∷ (0 ∷ []) ∷ (0 ∷ 0 ∷ []) ∷ (0 ∷ 0 ∷ 0 ∷ []) ∷ [])
    ≡ Stands 5 (with_lock Zero) (2 ∷ []) ∷ Stands 0 (Zero ∷ []) (2 ∷ []) ∷ Stands 6 (with_lock Zero) (2 ∷ []) ∷ Stands 7 (with_lock Zero) (1 ∷ []) ∷ []

-- ---- two services and a receiver share a static lock field: R.onReceive and S.onCreate acquire, S.onDestroy releases
unfoldable pub sharing : SubjectParts
sharing = subject
    (app_with 8 (codes "Lapp/R;" ∷ codes "Lapp/S;" ∷ []) (codes "onReceive" ∷ codes "onCreate" ∷ [])
    (codes "Lapp/T;" ∷ codes "Landroid/content/Context;" ∷ codes "Landroid/content/Intent;" ∷ codes "Landroid/content/BroadcastReceiver;" ∷ codes "Landroid/app/Service;" ∷ []) (codes "onDestroy" ∷ [])
    (type 8 ∷ type 9 ∷ []) (class_below 0 10 [] ∷ class_below 1 11 [] ∷ class_below 7 11 [] ∷ [])
    (with_code (method_of 0 0 1 5 3) (making in_static ++ returning 11 ∷ []) (making_names the_lock ++ operand.Plain ∷ [])
    ∷ with_code (method_of 1 1 0 3 1) (making in_static ++ returning 11 ∷ []) (making_names the_lock ++ operand.Plain ∷ [])
    ∷ with_code (method_of 1 7 0 2 1) releasing releasing_names ∷ []))
    (record { class = record { 0 = 1 }; kind = Service; exits = 64; methods = some_method 1 ∷ None ∷ None ∷ None ∷ None ∷ None ∷ some_method 2 ∷ [] }
    ∷ record { class = record { 0 = 2 }; kind = Service; exits = 64; methods = None ∷ None ∷ None ∷ None ∷ None ∷ None ∷ None ∷ [] }
    ∷ record { class = record { 0 = 0 }; kind = Receiver; exits = 1; methods = some_method 0 ∷ [] } ∷ [])
    (None ∷ [])

-- T is created first. While S is there, choices 0 to 5 are its callbacks, of which the last one is onDestroy, before that
-- choice 0 creates it; then come six of T, and then the starts of the receiver
abbrev pub with_t : List ℕ → List ℕ
with_t choices = passing 1 ++ choices

abbrev pub s_destroyed : List ℕ
s_destroyed = 5 ∷ 0 ∷ 0 ∷ 0 ∷ 0 ∷ []

-- T ends while the receiver's lock is held, and while that of S is
abbrev pub EndsAmidHeld : Type 0
EndsAmidHeld = map (seen sharing) (with_t (acquiring 7 ++ 6 ∷ []) ∷ with_t (acquiring 0 ++ 11 ∷ []) ∷ []) ≡ Ends (0 ∷ 0 ∷ 0 ∷ []) (2 ∷ []) ∷ Ends (1 ∷ 0 ∷ 0 ∷ []) (2 ∷ []) ∷ []

-- S releases its own lock; but where the receiver's has taken its place, that one, and its own one is lost
abbrev pub ReleasesOther : Type 0
ReleasesOther = map (seen sharing) (with_t (acquiring 0 ++ s_destroyed) ∷ with_t (acquiring 0 ++ acquiring 12 ++ s_destroyed) ∷ []) ≡ Ends (0 ∷ 1 ∷ 0 ∷ []) (1 ∷ []) ∷ Ends (0 ∷ 1 ∷ 0 ∷ []) (7 ∷ []) ∷ []
