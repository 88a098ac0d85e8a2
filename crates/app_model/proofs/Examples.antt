-- Calls, lock fields and subtypes of a small application, by computation. No contract speaks of them: they show that the
-- definitions tell apart what they are to tell apart.
use Rattle.std.proofs.Common.{◌≡◌, ℕ, true, false, List, [], ◌∷◌, Option, Some, None, codes, refl}
use Rattle.ns_base.specs.declared.rows.TypeNo.{TypeNo}
use Rattle.dalvik.specs.declared.opcode.TheConstants.{INVOKE_STATIC, INVOKE_VIRTUAL, INVOKE_VIRTUAL_RANGE}
use Rattle.app_model.specs.declared.lock_use.LockUse.{LockUse}
use Rattle.app_model.specs.declared.lock_use.LockUse.TheVariants.{Plain, Make, Acquire, Release, IsHeld, Mode, Wrong}
use Rattle.app_model.specs.declared.rows.FieldRow.{FieldRow}
use Rattle.app_model.specs.Hierarchy.{above_type, class_of_type, has_unknown_above, is_sub, line_of, lock_in, lock_of, may_be_sub, superclass_at}
use Rattle.app_model.specs.LockUse.{use_of}
use Rattle.app_model.specs.Names.{is_proto, name_text, power_manager_name, string_name, type_text, wake_lock_name}
use Rattle.app_model.specs.Parts.{AppParts, ClassParts, ProtoParts}
use Rattle.app_model.specs.Slots.{lock_named}

abbrev type : ℕ → TypeNo
type t = record { 0 = t }

abbrev class_below : (name : ℕ) → Option TypeNo → List TypeNo → ClassParts
class_below name parent interfaces = record { name = type name; parent = parent; interfaces = interfaces; flags = 1 }

abbrev proto : ℕ → List TypeNo → ProtoParts
proto result params = record { result = type result; params = params }

abbrev lock_field : (class name : ℕ) → FieldRow
lock_field class name = record { class = record { 0 = class }; name = record { 0 = name }; kind = type 2; flags = 8 }

-- A has the lock field `wl`; B, below it, has one of its own; C is below B and implements D, of which the files say nothing
abbrev sample : AppParts
sample = record {
  types = codes "LA;" ∷ codes "LB;" ∷ wake_lock_name ∷ power_manager_name ∷ string_name ∷ codes "V" ∷ codes "Z" ∷ codes "I" ∷ codes "J" ∷ codes "LC;" ∷ codes "LD;" ∷ codes "Ljava/lang/Object;" ∷ [];
  names = codes "acquire" ∷ codes "release" ∷ codes "isHeld" ∷ codes "setReferenceCounted" ∷ codes "newWakeLock" ∷ codes "wait" ∷ codes "wl" ∷ [];
  protos = proto 5 [] ∷ proto 5 (type 8 ∷ []) ∷ proto 5 (type 7 ∷ []) ∷ proto 6 [] ∷ proto 5 (type 6 ∷ []) ∷ proto 2 (type 7 ∷ type 4 ∷ []) ∷ [];
  classes = class_below 0 (Some (type 11)) [] ∷ class_below 1 (Some (type 0)) [] ∷ class_below 9 (Some (type 1)) (type 10 ∷ []) ∷ [];
  methods = [];
  fields = lock_field 0 6 ∷ lock_field 1 6 ∷ [];
  locks = record { 0 = 0 } ∷ record { 0 = 1 } ∷ [];
  code = [];
  operands = [];
}

abbrev usage : (op class name proto : ℕ) → LockUse
usage op class name proto = use_of sample op (record { class = type class; name = record { 0 = name }; proto = record { 0 = proto } })

lock_calls : (usage INVOKE_VIRTUAL 2 0 0 ∷ usage INVOKE_VIRTUAL_RANGE 2 0 1 ∷ usage INVOKE_VIRTUAL 2 1 0 ∷ usage INVOKE_VIRTUAL 2 1 2 ∷ usage INVOKE_VIRTUAL 2 2 3 ∷ usage INVOKE_VIRTUAL 2 3 4 ∷ usage INVOKE_VIRTUAL 3 4 5 ∷ [])
    ≡ (Acquire ∷ Acquire ∷ Release ∷ Release ∷ IsHeld ∷ Mode ∷ Make ∷ [])
unfolding type_text name_text is_proto
lock_calls = refl

-- static ones; acquire(int); wait(); newWakeLock() and a static newWakeLock
wrong_calls : (usage INVOKE_STATIC 2 0 0 ∷ usage INVOKE_VIRTUAL 2 0 2 ∷ usage INVOKE_VIRTUAL 2 5 0 ∷ usage INVOKE_VIRTUAL 3 4 0 ∷ usage INVOKE_STATIC 3 4 5 ∷ [])
    ≡ (Wrong ∷ Wrong ∷ Wrong ∷ Wrong ∷ Wrong ∷ [])
unfolding type_text name_text is_proto
wrong_calls = refl

-- another method of the power manager, and an acquire of another class
other_calls : (usage INVOKE_VIRTUAL 3 5 0 ∷ usage INVOKE_VIRTUAL 0 0 0 ∷ []) ≡ (Plain ∷ Plain ∷ [])
unfolding type_text name_text is_proto
other_calls = refl

abbrev access : (class kind : ℕ) → Option ℕ
access class kind = lock_named sample (Some (record { class = type class; name = record { 0 = 6 }; kind = type kind }))

-- a class's own field comes before that of its superclass; a field of another type is no lock field
lock_fields : (access 0 2 ∷ access 1 2 ∷ access 9 2 ∷ access 3 2 ∷ access 0 4 ∷ []) ≡ (Some 0 ∷ Some 1 ∷ Some 1 ∷ None ∷ None ∷ [])
unfolding type_text class_of_type superclass_at line_of lock_in lock_of
lock_fields = refl

-- C is below A and D, and nothing is below C
subtypes : (is_sub sample 9 0 ∷ is_sub sample 9 10 ∷ is_sub sample 0 0 ∷ is_sub sample 0 9 ∷ is_sub sample 9 3 ∷ []) ≡ (true ∷ true ∷ true ∷ false ∷ false ∷ [])
unfolding is_sub above_type
subtypes = refl

-- D may have any superclass that the files say nothing of, so an object of C may be a power manager, and one of A may not; a type
-- that is not named may be one of D, and not of A
maybe_subtypes : (may_be_sub sample (Some 9) 3 ∷ may_be_sub sample (Some 0) 3 ∷ may_be_sub sample (Some 9) 0 ∷ may_be_sub sample None 10 ∷ may_be_sub sample None 0 ∷ [])
    ≡ (true ∷ false ∷ true ∷ true ∷ false ∷ [])
unfolding is_sub above_type may_be_sub has_unknown_above class_of_type type_text
maybe_subtypes = refl
