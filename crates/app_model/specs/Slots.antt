-- The wake-lock fields, by which lock they are, and which of them an instruction reads or writes.
use Rattle.std.specs.Prelude.{ℕ, Bool, false, ◌==◌, if◌then◌else◌, List, [], Option, Some, None, slice_get, bytes_eq}
use Rattle.dalvik.specs.declared.ins.Ins.{Ins}
use Rattle.dalvik.specs.declared.ins.Ins.TheVariants as ins
use Rattle.app_model.specs.declared.rows.NamedField.{NamedField}
use Rattle.dalvik.specs.declared.opcode.TheConstants.{IGET_OBJECT, IPUT_OBJECT, SGET_OBJECT, SPUT_OBJECT}
use Rattle.app_model.specs.Parts.{AppParts, ClassParts}
use Rattle.app_model.specs.Words.{ins_at, field_named_at}
use Rattle.app_model.specs.Names.{type_text, wake_lock_name}
use Rattle.app_model.specs.Hierarchy.{lock_of}

-- the name of a class; empty out of range
abbrev pub text_of_class : AppParts → Option ClassParts → List ℕ
text_of_class app None = []
text_of_class app (Some class) = type_text app class.name.0

unfoldable pub class_text : AppParts → ℕ → List ℕ
class_text app c = text_of_class app (slice_get app.classes c)

-- reads and writes of a field that holds an object
abbrev pub is_object_access : Option Ins → Bool
is_object_access None = false
is_object_access (Some (ins.FieldGet op to object field)) = op == IGET_OBJECT
is_object_access (Some (ins.FieldPut op value object field)) = op == IPUT_OBJECT
is_object_access (Some (ins.StaticGet op to field)) = op == SGET_OBJECT
is_object_access (Some (ins.StaticPut op value field)) = op == SPUT_OBJECT
is_object_access (Some i) = false

-- the lock field that is named: one of the named class, or of the nearest one above it
abbrev pub lock_named : AppParts → Option NamedField → Option ℕ
lock_named app None = None
lock_named app (Some field) = if bytes_eq (type_text app field.kind.0) wake_lock_name then lock_of app field.class.0 field.name.0 else None

-- the lock field that instruction i of method m reads or writes
unfoldable pub slot_at : AppParts → ℕ → ℕ → Option ℕ
slot_at app m i = if is_object_access (ins_at app m i) then lock_named app (field_named_at app m i) else None
