-- What holds of an application that was linked.
use Rattle.std.specs.Prelude.{ℕ, ◌≡◌, ◌≢◌, ◌<◌, ◌≤◌, ◌+◌, ◌↔◌, List, length, map, sum_by, false, Contains, if◌then◌else◌, Option, Some, None, slice_get, slice_index_or}
use Rattle.std.specs.List.{All, AllPairs}
use Rattle.ns_base.specs.Answers.{limit_of}
use Rattle.ns_base.specs.declared.answers.Counted.TheVariants.{Units}
use Rattle.ns_base.specs.declared.rows.TypeNo.{TypeNo}
use Rattle.ns_base.specs.declared.rows.NameNo.{NameNo}
use Rattle.ns_base.specs.declared.rows.ProtoNo.{ProtoNo}
use Rattle.ns_base.specs.declared.rows.ClassNo.{ClassNo}
use Rattle.ns_base.specs.declared.rows.FieldNo.{FieldNo}
use Rattle.dalvik.specs.declared.ins.Ins.{Ins}
use Rattle.dalvik.specs.declared.ins.Ins.TheVariants as ins
use Rattle.dalvik.specs.declared.naming.Naming.{Naming}
use Rattle.dalvik.specs.declared.naming.Naming.TheVariants as naming
use Rattle.app_model.specs.declared.rows.MethodRow.{MethodRow}
use Rattle.app_model.specs.declared.rows.FieldRow.{FieldRow}
use Rattle.app_model.specs.declared.rows.Operand.{Operand}
use Rattle.app_model.specs.declared.rows.Operand.TheVariants.{Plain, Invoke, Access}
use Rattle.app_model.specs.Ancestors.{IsCyclic}
use Rattle.dalvik.specs.Access.{is_bodiless}
use Rattle.dalvik.specs.Body.{BodyRows, IsBody}
use Rattle.dalvik.specs.Descriptors.{words_of}
use Rattle.dalvik.specs.Calls.{args_len, is_static_call}
use Rattle.dalvik.specs.Naming.{naming_of}
use Rattle.app_model.specs.Names.{type_text, wake_lock_name}
use Rattle.app_model.specs.Parts.{AppParts, ClassParts, ProtoParts}
use Rattle.app_model.specs.Words.{IsApp, code_len, ins_at, operand_at, no_body}

-- ---- each number is a row of its table
abbrev pub IsType : AppParts → TypeNo → Type 0
IsType app t = t.0 < length app.types

abbrev pub IsName : AppParts → NameNo → Type 0
IsName app n = n.0 < length app.names

abbrev pub IsProto : AppParts → ProtoNo → Type 0
IsProto app p = p.0 < length app.protos

abbrev pub IsClass : AppParts → ClassNo → Type 0
IsClass app c = c.0 < length app.classes

pub record IsProtoRow (app : AppParts) (proto : ProtoParts) : Type 0 where
  pub result : IsType app proto.result
  pub params : All (IsType app) proto.params

pub record IsClassRow (app : AppParts) (class : ClassParts) : Type 0 where
  pub name : IsType app class.name
  pub parent : (t : TypeNo) → class.parent ≡ Some t → IsType app t
  pub interfaces : All (IsType app) class.interfaces

pub record IsMethodRow (app : AppParts) (method : MethodRow) : Type 0 where
  pub class : IsClass app method.class
  pub name : IsName app method.name
  pub proto : IsProto app method.proto

pub record IsFieldRow (app : AppParts) (field : FieldRow) : Type 0 where
  pub class : IsClass app field.class
  pub name : IsName app field.name
  pub kind : IsType app field.kind

abbrev pub IsOperand : AppParts → Operand → Type 0
IsOperand app Plain = Unit {0}
IsOperand app (Invoke named) = IsType app named.class × IsName app named.name × IsProto app named.proto
IsOperand app (Access field) = IsType app field.class × IsName app field.name × IsType app field.kind

pub record AreInRange (app : AppParts) : Type 0 where
  pub protos : All (IsProtoRow app) app.protos
  pub classes : All (IsClassRow app) app.classes
  pub methods : All (IsMethodRow app) app.methods
  pub fields : All (IsFieldRow app) app.fields
  pub operands : All (λ operands. All (IsOperand app) operands) app.operands
  pub kinds : (m i : ℕ) (own : Ins) (t : ℕ) → ins_at app m i ≡ Some own → naming_of own ≡ naming.Kind t → t < length app.types

-- ---- what is spelled alike has one number
abbrev pub AreDistinct : {A : Type 0} → List A → Type 0
AreDistinct xs = AllPairs (λ a b. a ≢ b) xs

pub record AreSpelledOnce (app : AppParts) : Type 0 where
  pub types : AreDistinct app.types
  pub names : AreDistinct app.names
  pub protos : AreDistinct app.protos
  pub classes : AreDistinct (map (λ (class : ClassParts). class.name.0) app.classes)

-- ---- the lock fields are the fields of the wake lock's type, rising
pub record AreLocks (app : AppParts) : Type 0 where
  pub rising : AllPairs (λ (a b : FieldNo). a.0 < b.0) app.locks
  pub each : (f : ℕ) (field : FieldRow) → slice_get app.fields f ≡ Some field → Contains app.locks (record { 0 = f }) ↔ (type_text app field.kind.0 ≡ wake_lock_name)
  pub fields : All (λ (f : FieldNo). f.0 < length app.fields) app.locks

-- ---- code fits its method
-- how many registers the parameters of a prototype take
abbrev pub params_len : AppParts → Option ProtoParts → ℕ
params_len app None = 0
params_len app (Some proto) = sum_by (λ (t : TypeNo). words_of (type_text app t.0)) proto.params

-- an operand stands for what an instruction names: one of a method for a method, one of a field for a field, and else a plain one
abbrev pub StandsFor : Naming → Operand → Type 0
StandsFor (naming.Method method) (Invoke named) = Unit {0}
StandsFor (naming.Method method) other = ⊥
StandsFor (naming.Field field) (Access named) = Unit {0}
StandsFor (naming.Field field) other = ⊥
StandsFor own Plain = Unit {0}
StandsFor own other = ⊥

-- and a call names as many registers as the arguments of its method take
abbrev pub FitsOperand : AppParts → Ins → Operand → Type 0
FitsOperand app (ins.Invoke op method arguments) (Invoke named) =
    args_len arguments ≡ (if is_static_call op then 0 else 1) + params_len app (slice_get app.protos named.proto.0)
FitsOperand app own operand = StandsFor (naming_of own) operand

pub record IsSoundMethod (app : AppParts) (m : ℕ) (method : MethodRow) : Type 0 where
  pub registers : (slice_index_or app.code m no_body).registers ≡ method.registers
  pub fits : method.ins ≤ method.registers
  pub begins : is_bodiless method.flags ≡ false → 0 < code_len app m
  pub operands : (i : ℕ) (own : Ins) (operand : Operand) → ins_at app m i ≡ Some own → operand_at app m i ≡ Some operand → FitsOperand app own operand

-- ---- all of it
pub record IsSoundApp (app : AppParts) : Type 0 where
  pub sizes : IsApp app
  pub ranges : AreInRange app
  pub once : AreSpelledOnce app
  pub acyclic : (c : ℕ) (class : ClassParts) → slice_get app.classes c ≡ Some class → ¬ IsCyclic app.classes class
  pub locks : AreLocks app
  pub methods : (m : ℕ) (method : MethodRow) → slice_get app.methods m ≡ Some method → IsSoundMethod app m method
  -- registers in range, successors and handlers among the places, rising pcs
  pub bodies : All (λ (body : BodyRows). IsBody body.registers body.places) app.code
  -- instructions of all methods
  pub instructions : sum_by (λ (body : BodyRows). length body.places) app.code ≤ limit_of Units
