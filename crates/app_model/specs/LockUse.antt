-- What a call is to the wake locks. A lock call is an invoke-virtual, or one by range, of one of six methods of the
-- wake lock's class. A lock is made in the same two forms by newWakeLock of the power manager.
use Rattle.dalvik.specs.Calls.{is_virtual_call}
use Rattle.std.specs.Prelude.{ℕ, Bool, ◌&&◌, ◌||◌, if◌then◌else◌, [], ◌∷◌, Option, Some, None, bytes_eq, codes}
use Rattle.dalvik.specs.declared.ins.Ins.{Ins}
use Rattle.dalvik.specs.declared.ins.Ins.TheVariants as ins
use Rattle.app_model.specs.declared.rows.Named.{Named}
use Rattle.app_model.specs.declared.lock_use.LockUse.{LockUse}
use Rattle.app_model.specs.declared.lock_use.LockUse.TheVariants.{Plain, Make, Acquire, Release, IsHeld, Mode, Wrong}
use Rattle.app_model.specs.Parts.{AppParts}
use Rattle.app_model.specs.Words.{ins_at, named_at}
use Rattle.app_model.specs.Names.{name_text, is_proto, is_on, is_method, wake_lock_name, power_manager_name, string_name}

abbrev pub is_acquire : AppParts → Named → Bool
is_acquire app named =
    is_method app named (codes "acquire") (codes "V") [] || is_method app named (codes "acquire") (codes "V") (codes "J" ∷ [])

abbrev pub is_release : AppParts → Named → Bool
is_release app named =
    is_method app named (codes "release") (codes "V") [] || is_method app named (codes "release") (codes "V") (codes "I" ∷ [])

-- a method of the wake lock's class
abbrev pub lock_call : AppParts → Named → LockUse
lock_call app named =
    if is_acquire app named then Acquire
    else (if is_release app named then Release
    else (if is_method app named (codes "isHeld") (codes "Z") [] then IsHeld
    else (if is_method app named (codes "setReferenceCounted") (codes "V") (codes "Z" ∷ []) then Mode else Wrong)))

abbrev pub is_new_wake_lock : AppParts → Named → Bool
is_new_wake_lock app named = is_on app named power_manager_name && bytes_eq (name_text app named.name.0) (codes "newWakeLock")

-- what an invoke of this opcode is
abbrev pub use_of : AppParts → ℕ → Named → LockUse
use_of app op named =
    if is_on app named wake_lock_name then (if is_virtual_call op then lock_call app named else Wrong)
    else (if is_new_wake_lock app named
    then (if is_virtual_call op && is_proto app named.proto.0 wake_lock_name (codes "I" ∷ string_name ∷ []) then Make else Wrong)
    else Plain)

-- the opcode of an invoke
abbrev pub invoke_of : Option Ins → Option ℕ
invoke_of None = None
invoke_of (Some (ins.Invoke op method arguments)) = Some op
invoke_of (Some i) = None

abbrev pub use_by : AppParts → Option ℕ → Option Named → LockUse
use_by app (Some op) (Some named) = use_of app op named
use_by app (Some op) None = Plain
use_by app None named = Plain

-- what instruction i of method m is
unfoldable pub lock_use_at : AppParts → ℕ → ℕ → LockUse
lock_use_at app m i = use_by app (invoke_of (ins_at app m i)) (named_at app m i)
