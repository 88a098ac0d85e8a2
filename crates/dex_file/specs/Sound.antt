-- What holds of every content that was read: each number is a row of its table, and code fits its method.
use Rattle.std.specs.Prelude.{ℕ, ◌≡◌, ◌<◌, ◌≤◌, ◌+◌, length, sum_by, if◌then◌else◌, Option, Some, None, slice_get}
use Rattle.std.specs.List.{All}
use Rattle.dex_tables.specs.declared.tables.FieldId.{FieldId}
use Rattle.dex_tables.specs.declared.tables.MethodId.{MethodId}
use Rattle.dalvik.specs.declared.body.Place.{Place}
use Rattle.dalvik.specs.declared.ins.Ins.{Ins}
use Rattle.dalvik.specs.declared.ins.Ins.TheVariants as ins
use Rattle.dalvik.specs.Body.{IsBody}
use Rattle.dalvik.specs.Descriptors.{words_of}
use Rattle.dalvik.specs.Calls.{args_len, is_static_call}
use Rattle.dalvik.specs.declared.naming.Naming.{Naming}
use Rattle.dalvik.specs.declared.naming.Naming.TheVariants.{Nothing, String, Kind, Field, Method}
use Rattle.dalvik.specs.Naming.{naming_of}
use Rattle.dex_file.specs.declared.parts.FileCode.{FileCode}
use Rattle.dex_file.specs.declared.parts.FileField.{FileField}
use Rattle.dex_file.specs.declared.parts.FileMethod.{FileMethod}
use Rattle.dex_file.specs.Content.{ClassContent, FileContent, ProtoContent, type_text}

abbrev pub IsType : FileContent → ℕ → Type 0
IsType file t = t < length file.types

pub record IsSoundProto (file : FileContent) (proto : ProtoContent) : Type 0 where
  pub shorty : proto.shorty < length file.strings
  pub result : IsType file proto.result
  pub params : All (IsType file) proto.params

pub record IsSoundField (file : FileContent) (id : FieldId) : Type 0 where
  pub class : IsType file id.class
  pub kind : IsType file id.kind
  pub name : id.name < length file.strings

pub record IsSoundMethod (file : FileContent) (id : MethodId) : Type 0 where
  pub class : IsType file id.class
  pub proto : id.proto < length file.protos
  pub name : id.name < length file.strings

-- what an instruction names is a row of its table
abbrev pub IsThere : FileContent → Naming → Type 0
IsThere file Nothing = Unit {0}
IsThere file (String s) = s < length file.strings
IsThere file (Kind t) = IsType file t
IsThere file (Field f) = f < length file.fields
IsThere file (Method m) = m < length file.methods

-- how many registers the parameters of a prototype take, and those of a method's
abbrev pub params_len : FileContent → Option ProtoContent → ℕ
params_len file None = 0
params_len file (Some proto) = sum_by (λ (t : ℕ). words_of (type_text file (Some t))) proto.params

abbrev pub method_len : FileContent → Option MethodId → ℕ
method_len file None = 0
method_len file (Some id) = params_len file (slice_get file.protos id.proto)

-- a call names as many registers as its arguments take
abbrev pub HasItsArgs : FileContent → Ins → Type 0
HasItsArgs file (ins.Invoke op method arguments) =
    args_len arguments ≡ (if is_static_call op then 0 else 1) + method_len file (slice_get file.methods method)
HasItsArgs file other = Unit {0}

pub record IsSoundIns (file : FileContent) (own : Ins) : Type 0 where
  pub named : IsThere file (naming_of own)
  pub arguments : HasItsArgs file own

pub record IsSoundCode (file : FileContent) (code : FileCode) : Type 0 where
  pub body : IsBody code.body.registers code.body.places
  pub begins : 0 < length code.body.places
  pub fits : code.ins ≤ code.body.registers
  pub each : All (λ (place : Place). IsSoundIns file place.ins) code.body.places

pub record IsSoundMember (file : FileContent) (method : FileMethod) : Type 0 where
  pub id : method.id < length file.methods
  pub code : (own : FileCode) → method.code ≡ Some own → IsSoundCode file own

pub record IsSoundClass (file : FileContent) (class : ClassContent) : Type 0 where
  pub kind : IsType file class.kind
  pub parent : (t : ℕ) → class.parent ≡ Some t → IsType file t
  pub interfaces : All (IsType file) class.interfaces
  pub statics : All (λ (field : FileField). field.id < length file.fields) class.statics
  pub instances : All (λ (field : FileField). field.id < length file.fields) class.instances
  pub directs : All (IsSoundMember file) class.directs
  pub virtuals : All (IsSoundMember file) class.virtuals

-- instructions of code, of a method, and of the methods of a class
abbrev pub code_len : Option FileCode → ℕ
code_len None = 0
code_len (Some own) = length own.body.places

abbrev pub instructions_of : FileMethod → ℕ
instructions_of method = code_len method.code

abbrev pub instructions_in : ClassContent → ℕ
instructions_in class = sum_by instructions_of class.directs + sum_by instructions_of class.virtuals

pub record IsSoundFile (file : FileContent) : Type 0 where
  pub types : All (λ s. s < length file.strings) file.types
  pub protos : All (IsSoundProto file) file.protos
  pub fields : All (IsSoundField file) file.fields
  pub methods : All (IsSoundMethod file) file.methods
  pub classes : All (IsSoundClass file) file.classes
  -- an instruction has at least one code unit
  pub units : sum_by instructions_in file.classes ≤ file.units
