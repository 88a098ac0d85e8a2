-- The scope rules: where an application breaks one, so that nothing is said of its wake locks. A rule is given by its
-- number, N1 to N10; a place by method and pc, which is 0 where a whole method breaks the rule.
use Rattle.std.specs.Prelude.{ℕ, ◌≡◌, ◌≢◌, ◌<◌, ◌⊎◌, ◌==◌, ◌&&◌, ◌||◌, not, nat_le, Bool, true, false, List, [], ◌∷◌, length, filter, take, Option, Some, None, is_some, Contains, bit_and, slice_get, slice_index, bytes_eq, codes}
use Rattle.std.specs.List.{list_any}
use Rattle.std.specs.Option.{option_and_then}
use Rattle.ns_base.specs.declared.rows.ClassNo.{ClassNo}
use Rattle.ns_base.specs.declared.rows.FieldNo.{FieldNo}
use Rattle.ns_base.specs.declared.rows.MethodNo.{MethodNo}
use Rattle.dalvik.specs.declared.access.TheConstants.{NATIVE, STATIC}
use Rattle.dalvik.specs.declared.ins.Ins.{Ins}
use Rattle.dalvik.specs.declared.ins.Ins.TheVariants as ins
use Rattle.dalvik.specs.declared.opcode.TheConstants.{IPUT_OBJECT, SPUT_OBJECT}
use Rattle.app_model.specs.declared.component.Kind.{Kind}
use Rattle.app_model.specs.declared.component.Kind.TheVariants.{Activity, Service, Receiver, Runnable}
use Rattle.app_model.specs.declared.rows.FieldRow.{FieldRow}
use Rattle.app_model.specs.declared.rows.MethodRow.{MethodRow}
use Rattle.app_model.specs.declared.rows.Named.{Named}
use Rattle.app_model.specs.CallGraph.{GraphParts, callees_at}
use Rattle.app_model.specs.Components.{ComponentParts, callback_at, entries_of}
use Rattle.app_model.specs.Hierarchy.{is_sub}
use Rattle.app_model.specs.LockUse.{invoke_of, lock_use_at}
use Rattle.app_model.specs.Masks.{any_below}
use Rattle.app_model.specs.Names.{is_on, name_text, type_text}
use Rattle.app_model.specs.Parts.{AppParts, ClassParts}
use Rattle.app_model.specs.Reach.{IsReached}
use Rattle.app_model.specs.Slots.{slot_at}
use Rattle.app_model.specs.TagTable.{TagParts, row_at}
use Rattle.app_model.specs.Targets.{call_by, is_plain}
use Rattle.app_model.specs.Words.{code_len, ins_at, named_at, pc_at}
use Rattle.act_model.specs.Acts.{act_at}
use Rattle.flow_model.specs.Passes.{is_instance}
use Rattle.flow_model.specs.Scope.{is_escape, is_wrong_call, stores_new}

-- an application with its call graph, its component list and its tags, which is a subject where no rule is broken
pub record Candidate : Type 0 where
  pub app : AppParts
  pub graph : GraphParts
  pub list : List ComponentParts
  pub tags : TagParts

-- the callbacks reach method m
abbrev pub IsEntered : Candidate → (m : ℕ) → Type 0
IsEntered x m = IsReached x.graph (entries_of x.list) m

-- the reach of method m, itself included, has method n
abbrev pub IsBelow : Candidate → (m n : ℕ) → Type 0
IsBelow x m n = IsReached x.graph (record { 0 = m } ∷ []) n

-- ---- names
abbrev pub has_name : AppParts → Named → List (List ℕ) → Bool
has_name app named names = list_any (bytes_eq (name_text app named.name.0)) names

abbrev pub begins_with : (front text : List ℕ) → Bool
begins_with front text = bytes_eq (take (length front) text) front

abbrev pub passes_named : (Named → Bool) → Option Named → Bool
passes_named test None = false
passes_named test (Some named) = test named

-- the class and the name of method m; empty out of range
abbrev pub class_name_of : AppParts → Option ClassParts → List ℕ
class_name_of app None = []
class_name_of app (Some class) = type_text app class.name.0

abbrev pub class_of_row : AppParts → Option MethodRow → List ℕ
class_of_row app None = []
class_of_row app (Some method) = class_name_of app (slice_get app.classes method.class.0)

abbrev pub name_of_row : AppParts → Option MethodRow → List ℕ
name_of_row app None = []
name_of_row app (Some method) = name_text app method.name.0

unfoldable pub class_name : AppParts → (m : ℕ) → List ℕ
class_name app m = class_of_row app (slice_get app.methods m)

unfoldable pub method_name : AppParts → (m : ℕ) → List ℕ
method_name app m = name_of_row app (slice_get app.methods m)

abbrev pub class_initialiser : List ℕ
class_initialiser = codes "<clinit>"

abbrev pub initialiser : List ℕ
initialiser = codes "<init>"

abbrev pub is_capital : ℕ → Bool
is_capital letter = nat_le 65 letter && nat_le letter 90

-- run, or on and a capital letter
unfoldable pub is_callback_name : List ℕ → Bool
is_callback_name name = bytes_eq name (codes "run") || (begins_with (codes "on") name && is_capital (slice_index name 2))

-- ---- native code, reflection, threads
abbrev pub is_native_row : Option MethodRow → Bool
is_native_row None = false
is_native_row (Some method) = not (bit_and method.flags NATIVE == 0)

unfoldable pub is_native : AppParts → (m : ℕ) → Bool
is_native app m = is_native_row (slice_get app.methods m)

unfoldable pub loads_code : AppParts → Named → Bool
loads_code app named = is_on app named (codes "Ljava/lang/System;") && has_name app named (codes "load" ∷ codes "loadLibrary" ∷ [])

abbrev pub loader_names : List (List ℕ)
loader_names = codes "Ljava/lang/ClassLoader;" ∷ codes "Ldalvik/system/DexClassLoader;" ∷ codes "Ldalvik/system/PathClassLoader;" ∷ []

unfoldable pub reflects : AppParts → Named → Bool
reflects app named =
    (is_on app named (codes "Ljava/lang/Class;") && has_name app named (codes "forName" ∷ codes "newInstance" ∷ []))
    || (begins_with (codes "Ljava/lang/reflect/") (type_text app named.class.0)
    || list_any (is_on app named) loader_names)

abbrev pub thread_names : List (List ℕ)
thread_names =
    codes "Ljava/lang/Thread;" ∷ codes "Ljava/util/Timer;" ∷ codes "Ljava/util/concurrent/Executor;"
    ∷ codes "Ljava/util/concurrent/ExecutorService;" ∷ codes "Ljava/util/concurrent/ThreadPoolExecutor;"
    ∷ codes "Landroid/os/AsyncTask;" ∷ codes "Landroid/os/HandlerThread;" ∷ codes "Landroid/app/IntentService;" ∷ []

-- a type is or inherits a thread type
unfoldable pub is_thread : AppParts → (t : ℕ) → Bool
is_thread app t = any_below (λ u. list_any (bytes_eq (type_text app u)) thread_names && is_sub app t u) (length app.types)

-- an invoke of this opcode, of a method of a thread with a receiver, or of Executors
abbrev pub is_thread_call : AppParts → Option ℕ → Named → Bool
is_thread_call app None named = false
is_thread_call app (Some op) named =
    (is_instance (call_by op) && is_thread app named.class.0) || is_on app named (codes "Ljava/util/concurrent/Executors;")

-- the type of which an instruction makes an object
abbrev pub made_type : Option Ins → Option ℕ
made_type (Some (ins.NewInstance to kind)) = Some kind
made_type own = None

-- ---- lock instructions
-- an invoke of a method of the wake locks, or an object access to a lock field
unfoldable pub is_lock_ins : AppParts → (m i : ℕ) → Bool
is_lock_ins app m i = not (is_plain (lock_use_at app m i)) || is_some (slot_at app m i)

-- the field that is lock field l
unfoldable pub field_of_lock : AppParts → (l : ℕ) → Option FieldRow
field_of_lock app l = option_and_then (λ (f : FieldNo). slice_get app.fields f.0) (slice_get app.locks l)

abbrev pub is_field_of : Option FieldRow → Option MethodRow → Bool
is_field_of (Some field) (Some method) = field.class.0 == method.class.0
is_field_of None method = false
is_field_of (Some field) None = false

-- the lock field of an access is one of the method's own class
abbrev pub is_own_slot : AppParts → (m : ℕ) → Option ℕ → Bool
is_own_slot app m None = false
is_own_slot app m (Some l) = is_field_of (field_of_lock app l) (slice_get app.methods m)

-- a store of the form that initialises fields in a method of this name
abbrev pub is_store_in : (name : List ℕ) → Option Ins → Bool
is_store_in name (Some (ins.StaticPut op value field)) = op == SPUT_OBJECT && bytes_eq name class_initialiser
is_store_in name (Some (ins.FieldPut op value object field)) = op == IPUT_OBJECT && bytes_eq name initialiser
is_store_in name own = false

abbrev pub is_own_store : AppParts → (m i : ℕ) → Bool
is_own_store app m i = is_store_in (method_name app m) (ins_at app m i) && is_own_slot app m (slot_at app m i)

-- the method has no lock instructions but stores that initialise the lock fields of its own class
unfoldable pub initialises : AppParts → (m : ℕ) → Bool
initialises app m = not (any_below (λ i. is_lock_ins app m i && not (is_own_store app m i)) (code_len app m))

-- a lock instruction that is no initialiser store
abbrev pub touches : AppParts → (m i : ℕ) → Bool
touches app m i = is_lock_ins app m i && not (initialises app m)

-- ---- owners of instance lock fields
abbrev pub is_static_field : FieldRow → Bool
is_static_field field = not (bit_and field.flags STATIC == 0)

abbrev pub is_static_access : Option Ins → Bool
is_static_access (Some (ins.StaticGet op to field)) = true
is_static_access (Some (ins.StaticPut op value field)) = true
is_static_access own = false

abbrev pub inherits_class : AppParts → Option ClassParts → Option ClassParts → Bool
inherits_class app (Some class) (Some above) = is_sub app class.name.0 above.name.0
inherits_class app None above = false
inherits_class app (Some class) None = false

-- class c is or inherits class d
unfoldable pub inherits : AppParts → (c d : ClassNo) → Bool
inherits app c d = inherits_class app (slice_get app.classes c.0) (slice_get app.classes d.0)

abbrev pub is_lasting : Kind → Bool
is_lasting Activity = true
is_lasting Service = true
is_lasting Receiver = true
is_lasting Runnable = false

-- a component that is no runnable, and whose class is or inherits the field's
abbrev pub may_own : AppParts → FieldRow → ComponentParts → Bool
may_own app field component = is_lasting component.kind && inherits app component.class field.class

abbrev pub owner_count : Candidate → FieldRow → ℕ
owner_count x field = length (filter (may_own x.app field) x.list)

abbrev pub is_type_below : AppParts → (t : ℕ) → Option ClassParts → Bool
is_type_below app t None = false
is_type_below app t (Some class) = is_sub app t class.name.0

-- reached code makes an object whose class is or inherits the field's
pub record IsMade (x : Candidate) (field : FieldRow) : Type 0 where
  pub method : ℕ
  pub index : ℕ
  pub kind : ℕ
  pub reached : IsEntered x method
  pub makes : made_type (ins_at x.app method index) ≡ Some kind
  pub below : is_type_below x.app kind (slice_get x.app.classes field.class.0) ≡ true

-- instruction i of method m, which is reached, accesses lock field l
pub record IsAccess (x : Candidate) (m i l : ℕ) (field : FieldRow) : Type 0 where
  pub reached : IsEntered x m
  pub slot : slot_at x.app m i ≡ Some l
  pub is : field_of_lock x.app l ≡ Some field

-- ---- stores of new locks
abbrev pub IsEarlier : (n j m i : ℕ) → Type 0
IsEarlier n j m i = (n < m) ⊎ ((n ≡ m) × (j < i))

-- instruction i of method m, which is reached, stores a new lock to field l
pub record StoresNew (x : Candidate) (l m i : ℕ) : Type 0 where
  pub reached : IsEntered x m
  pub stores : stores_new l (act_at x.app m i) (row_at x.tags m i) ≡ true

-- ---- the rules
-- rule number `rule` is broken at `pc` of method m
pub data Breaks (x : Candidate) : (rule m pc : ℕ) → Type 0 where
  -- N1: native code
  native_entry : {m : ℕ} (c k : ℕ) → callback_at x.list c k ≡ Some m → is_native x.app m ≡ true → Breaks x 1 m 0
  native_call : {m pc : ℕ} (i : ℕ) (n : MethodNo) → IsEntered x m → pc_at x.app m i ≡ Some pc
      → Contains (callees_at x.graph m i) n → is_native x.app n.0 ≡ true → Breaks x 1 m pc
  loads : {m pc : ℕ} (i : ℕ) → IsEntered x m → pc_at x.app m i ≡ Some pc
      → passes_named (loads_code x.app) (named_at x.app m i) ≡ true → Breaks x 1 m pc
  -- N2: reflection
  reflective_call : {m pc : ℕ} (i : ℕ) → IsEntered x m → pc_at x.app m i ≡ Some pc
      → passes_named (reflects x.app) (named_at x.app m i) ≡ true → Breaks x 2 m pc
  -- N3: threads
  thread_made : {m pc : ℕ} (i t : ℕ) → IsEntered x m → pc_at x.app m i ≡ Some pc
      → made_type (ins_at x.app m i) ≡ Some t → is_thread x.app t ≡ true → Breaks x 3 m pc
  thread_call : {m pc : ℕ} (i : ℕ) → IsEntered x m → pc_at x.app m i ≡ Some pc
      → passes_named (is_thread_call x.app (invoke_of (ins_at x.app m i))) (named_at x.app m i) ≡ true → Breaks x 3 m pc
  -- N4: a lock goes where it is not followed
  escape : {m pc : ℕ} (i : ℕ) → IsEntered x m → pc_at x.app m i ≡ Some pc
      → is_escape (act_at x.app m i) (row_at x.tags m i) ≡ true → Breaks x 4 m pc
  -- N5: a lock call that is none
  wrong_call : {m pc : ℕ} (i : ℕ) → IsEntered x m → pc_at x.app m i ≡ Some pc
      → is_wrong_call (act_at x.app m i) (row_at x.tags m i) ≡ true → Breaks x 5 m pc
  -- N6: a second place stores new locks to one field
  second_store : {m pc : ℕ} (i l n j : ℕ) → pc_at x.app m i ≡ Some pc
      → StoresNew x l m i → StoresNew x l n j → IsEarlier n j m i → Breaks x 6 m pc
  -- N7: an instance lock field without its one owner, and an access that does not fit its field
  unowned : {m pc l : ℕ} {field : FieldRow} (i : ℕ) → pc_at x.app m i ≡ Some pc → IsAccess x m i l field
      → is_static_field field ≡ false → owner_count x field ≢ 1 → Breaks x 7 m pc
  made_by_hand : {m pc l : ℕ} {field : FieldRow} (i : ℕ) → pc_at x.app m i ≡ Some pc → IsAccess x m i l field
      → is_static_field field ≡ false → IsMade x field → Breaks x 7 m pc
  unfit_access : {m pc l : ℕ} {field : FieldRow} (i : ℕ) → pc_at x.app m i ≡ Some pc → IsAccess x m i l field
      → is_static_access (ins_at x.app m i) ≢ is_static_field field → Breaks x 7 m pc
  -- N8: a lock is touched where no callback leads
  unreached : {m pc : ℕ} (i : ℕ) → ¬ IsEntered x m → method_name x.app m ≢ class_initialiser → pc_at x.app m i ≡ Some pc
      → touches x.app m i ≡ true → Breaks x 8 m pc
  -- N9: what may be a callback that is not listed leads to a lock
  unlisted : {m : ℕ} (n i : ℕ) → ¬ IsEntered x m → is_callback_name (method_name x.app m) ≡ true
      → IsBelow x m n → is_lock_ins x.app n i ≡ true → Breaks x 9 m 0
  -- N10: an initialiser leads to a lock
  class_init_touches : {m : ℕ} (n i : ℕ) → method_name x.app m ≡ class_initialiser
      → IsBelow x m n → touches x.app n i ≡ true → Breaks x 10 m 0
  init_touches : {m : ℕ} {method : MethodRow} {component : ComponentParts} (n i : ℕ) → ¬ IsEntered x m → method_name x.app m ≡ initialiser
      → slice_get x.app.methods m ≡ Some method → Contains x.list component → inherits x.app component.class method.class ≡ true
      → IsBelow x m n → touches x.app n i ≡ true → Breaks x 10 m 0

-- the first rule that is broken, at the first place where it is
pub record IsFirstBreak (x : Candidate) (rule m pc : ℕ) : Type 0 where
  pub broken : Breaks x rule m pc
  pub first : (r n p : ℕ) → Breaks x r n p → (rule < r) ⊎ ((rule ≡ r) × ((m < n) ⊎ ((m ≡ n) × (nat_le pc p ≡ true))))
