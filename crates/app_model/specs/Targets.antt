-- What a call can call: methods of the application, and what is outside it. Access flags are not looked at.
use Rattle.std.specs.Prelude.{ℕ, ◌≡◌, ◌+◌, ◌==◌, ◌||◌, ◌&&◌, not, Bool, true, false, if◌then◌else◌, List, [], ◌∷◌, ◌++◌, map, length, filter, filter_map, flat_map, Option, Some, None, is_none, slice_get, slice_index}
use Rattle.std.specs.List.{list_any, range_with_len}
use Rattle.ns_base.specs.declared.rows.MethodNo.{MethodNo}
use Rattle.ns_base.specs.declared.rows.TypeNo.{TypeNo}
use Rattle.dalvik.specs.declared.opcode.TheConstants.{INVOKE_SUPER, INVOKE_SUPER_RANGE, INVOKE_DIRECT, INVOKE_DIRECT_RANGE, INVOKE_STATIC, INVOKE_STATIC_RANGE, INVOKE_VIRTUAL, INVOKE_VIRTUAL_RANGE, INVOKE_INTERFACE, INVOKE_INTERFACE_RANGE}
use Rattle.app_model.specs.declared.calls.By.{By}
use Rattle.app_model.specs.declared.calls.By.TheVariants.{Virtual, Super, Direct, Static}
use Rattle.app_model.specs.declared.lock_use.LockUse.{LockUse}
use Rattle.app_model.specs.declared.lock_use.LockUse.TheVariants.{Plain, Make, Acquire, Release, IsHeld, Mode, Wrong}
use Rattle.app_model.specs.declared.rows.MethodRow.{MethodRow}
use Rattle.app_model.specs.declared.rows.Named.{Named}
use Rattle.app_model.specs.CallGraph.{FitsCode, GraphParts, TargetParts, no_targets, targets_at}
use Rattle.app_model.specs.Hierarchy.{class_of_type, lookup_of, may_be_sub, parent_of}
use Rattle.app_model.specs.LockUse.{invoke_of, use_of}
use Rattle.app_model.specs.Names.{type_text}
use Rattle.app_model.specs.Parts.{AppParts, ClassParts}
use Rattle.app_model.specs.Words.{code_len, ins_at, named_at}

-- how an invoke of this opcode finds its method; interface calls go by the receiver's type as virtual ones do
abbrev pub call_by : (op : ℕ) → By
call_by op =
    if op == INVOKE_SUPER || op == INVOKE_SUPER_RANGE then Super
    else (if op == INVOKE_DIRECT || op == INVOKE_DIRECT_RANGE then Direct
    else (if op == INVOKE_STATIC || op == INVOKE_STATIC_RANGE then Static else Virtual))

-- ---- where the look-up of a call begins
abbrev pub class_of_method : Option MethodRow → Option ℕ
class_of_method None = None
class_of_method (Some method) = Some method.class.0

abbrev pub class_at : AppParts → Option ℕ → Option ClassParts
class_at app None = None
class_at app (Some c) = slice_get app.classes c

-- the superclass of the class of method m
unfoldable pub super_of : AppParts → (m : ℕ) → Option TypeNo
super_of app m = parent_of (class_at app (class_of_method (slice_get app.methods m)))

abbrev pub found_above : AppParts → Option TypeNo → Named → Option ℕ
found_above app None named = None
found_above app (Some t) named = lookup_of app t.0 named.name.0 named.proto.0

-- the method that a call in method m finds on an object of type t; none where it leads outside the application
abbrev pub found_on : AppParts → (m : ℕ) → By → Named → (t : ℕ) → Option ℕ
found_on app m Virtual named t = lookup_of app t named.name.0 named.proto.0
found_on app m Super named t = found_above app (super_of app m) named
found_on app m Direct named t = lookup_of app named.class.0 named.name.0 named.proto.0
found_on app m Static named t = lookup_of app named.class.0 named.name.0 named.proto.0

-- ---- what leads outside whatever the application declares
abbrev pub array_mark : ℕ
array_mark = 91

-- a call of a method of an array: its descriptor begins with [
unfoldable pub is_on_array : AppParts → Named → Bool
is_on_array app named = slice_index (type_text app named.class.0) 0 == array_mark

abbrev pub is_plain : LockUse → Bool
is_plain Plain = true
is_plain Make = false
is_plain Acquire = false
is_plain Release = false
is_plain IsHeld = false
is_plain Mode = false
is_plain Wrong = false

-- and a lock instruction, whichever methods of the application have its name
unfoldable pub is_foreign : AppParts → (op : ℕ) → Named → Bool
is_foreign app op named = is_on_array app named || not (is_plain (use_of app op named))

-- ---- what a call can find: methods of the application, and None where it leads outside
-- the classes of the application of which the receiver may be, and the outside where the named class is no class of it
abbrev pub may_receive : AppParts → Named → ClassParts → Bool
may_receive app named class = may_be_sub app (Some class.name.0) named.class.0

abbrev pub found_virtually : AppParts → (m : ℕ) → Named → List (Option ℕ)
found_virtually app m named =
    (if is_none (class_of_type app.classes named.class.0) then None ∷ [] else [])
    ++ map (λ (class : ClassParts). found_on app m Virtual named class.name.0) (filter (may_receive app named) app.classes)

abbrev pub found_by : AppParts → (m : ℕ) → By → Named → List (Option ℕ)
found_by app m Virtual named = found_virtually app m named
found_by app m Super named = found_on app m Super named 0 ∷ []
found_by app m Direct named = found_on app m Direct named 0 ∷ []
found_by app m Static named = found_on app m Static named 0 ∷ []

unfoldable pub found_of : AppParts → (m op : ℕ) → Named → List (Option ℕ)
found_of app m op named = if is_foreign app op named then None ∷ [] else found_by app m (call_by op) named

-- ---- the same as a row: the methods rising, each once, and whether the outside is among them
abbrev pub is_method : ℕ → Option ℕ → Bool
is_method n None = false
is_method n (Some m) = m == n

abbrev pub finds : List (Option ℕ) → ℕ → Bool
finds found n = list_any (is_method n) found

abbrev pub method_no : ℕ → MethodNo
method_no n = record { 0 = n }

unfoldable pub row_of : (methods : ℕ) → List (Option ℕ) → TargetParts
row_of methods found =
    record { callees = map method_no (filter (finds found) (range_with_len 0 methods)); outside = list_any is_none found }

-- what an invoke in method m of this opcode can call
unfoldable pub targets_of_call : AppParts → (m op : ℕ) → Named → TargetParts
targets_of_call app m op named = row_of (length app.methods) (found_of app m op named)

abbrev pub targets_by : AppParts → (m : ℕ) → Option ℕ → Option Named → TargetParts
targets_by app m (Some op) (Some named) = targets_of_call app m op named
targets_by app m (Some op) None = no_targets
targets_by app m None named = no_targets

-- what instruction i of method m can call
unfoldable pub targets_in : AppParts → (m i : ℕ) → TargetParts
targets_in app m i = targets_by app m (invoke_of (ins_at app m i)) (named_at app m i)

-- ---- how much that is
-- calls that can call the same for the same cause: of one kind, plain or by range, and of one named method; of
-- invoke-super in one class
pub record CallKey : Type 0 where
  pub kind : ℕ
  pub caller : Option ℕ
  pub named : Named

-- the opcode of the plain form
abbrev pub plain_form : (op : ℕ) → ℕ
plain_form op =
    if op == INVOKE_VIRTUAL_RANGE then INVOKE_VIRTUAL
    else (if op == INVOKE_SUPER_RANGE then INVOKE_SUPER
    else (if op == INVOKE_DIRECT_RANGE then INVOKE_DIRECT
    else (if op == INVOKE_STATIC_RANGE then INVOKE_STATIC
    else (if op == INVOKE_INTERFACE_RANGE then INVOKE_INTERFACE else op))))

abbrev pub key_of : AppParts → (m op : ℕ) → Named → CallKey
key_of app m op named =
    record { kind = plain_form op; caller = if plain_form op == INVOKE_SUPER then class_of_method (slice_get app.methods m) else None; named = named }

pub record CallAt : Type 0 where
  pub method : ℕ
  pub op : ℕ
  pub named : Named

abbrev pub call_of : (m : ℕ) → Option ℕ → Option Named → Option CallAt
call_of m (Some op) (Some named) = Some (record { method = m; op = op; named = named })
call_of m (Some op) None = None
call_of m None named = None

-- the calls of all methods, in order
abbrev pub calls_in : AppParts → (m : ℕ) → List CallAt
calls_in app m = filter_map (λ i. call_of m (invoke_of (ins_at app m i)) (named_at app m i)) (range_with_len 0 (code_len app m))

unfoldable pub calls_of : AppParts → List CallAt
calls_of app = flat_map (calls_in app) (range_with_len 0 (length app.methods))

abbrev pub same_caller : Option ℕ → Option ℕ → Bool
same_caller None None = true
same_caller None (Some b) = false
same_caller (Some a) None = false
same_caller (Some a) (Some b) = a == b

abbrev pub same_named : Named → Named → Bool
same_named a b = a.class.0 == b.class.0 && (a.name.0 == b.name.0 && a.proto.0 == b.proto.0)

abbrev pub same_key : CallKey → CallKey → Bool
same_key a b = a.kind == b.kind && (same_caller a.caller b.caller && same_named a.named b.named)

abbrev pub key_at : AppParts → CallAt → CallKey
key_at app call = key_of app call.method call.op call.named

abbrev pub callee_count : AppParts → CallAt → ℕ
callee_count app call = length (targets_of_call app call.method call.op call.named).callees

-- the callees of calls, where those of one key count once; the keys of `seen` were counted
abbrev pub entries_from : AppParts → (seen : List CallKey) → List CallAt → ℕ
entries_from app seen [] = 0
entries_from app seen (call ∷ calls) =
    (if list_any (same_key (key_at app call)) seen then 0 else callee_count app call) + entries_from app (key_at app call ∷ seen) calls

unfoldable pub entry_count : AppParts → ℕ
entry_count app = entries_from app [] (calls_of app)

-- ---- a call graph of an application
pub record IsCallGraph (app : AppParts) (graph : GraphParts) : Type 0 where
  pub fits : FitsCode app graph
  pub rows : (m i : ℕ) → targets_at graph m i ≡ targets_in app m i
