-- The application of some files. Classes are numbered by file and class row; methods by class, directs before
-- virtuals; fields by class, statics before instances.
use Rattle.std.specs.Prelude.{ℕ, suc, List, [], ◌∷◌, ◌++◌, length, map, fold, if◌then◌else◌, Option, Some, None, option_map, bytes_eq, slice_index, slice_index_or}
use Rattle.ns_base.specs.declared.rows.TypeNo.{TypeNo}
use Rattle.ns_base.specs.declared.rows.NameNo.{NameNo}
use Rattle.ns_base.specs.declared.rows.ProtoNo.{ProtoNo}
use Rattle.ns_base.specs.declared.rows.FieldNo.{FieldNo}
use Rattle.dex_tables.specs.declared.tables.FieldId.{FieldId}
use Rattle.dex_tables.specs.declared.tables.MethodId.{MethodId}
use Rattle.dalvik.specs.declared.ins.Ins.{Ins}
use Rattle.dalvik.specs.declared.naming.Naming.{Naming}
use Rattle.dalvik.specs.declared.naming.Naming.TheVariants as naming
use Rattle.dalvik.specs.Naming.{naming_of, with_kind}
use Rattle.dalvik.specs.declared.body.Place.{Place}
use Rattle.app_model.specs.declared.rows.FieldRow.{FieldRow}
use Rattle.app_model.specs.declared.rows.MethodRow.{MethodRow}
use Rattle.app_model.specs.declared.rows.Named.{Named}
use Rattle.app_model.specs.declared.rows.NamedField.{NamedField}
use Rattle.app_model.specs.declared.rows.Operand.{Operand}
use Rattle.app_model.specs.declared.rows.Operand.TheVariants as operand
use Rattle.dalvik.specs.Body.{BodyRows}
use Rattle.app_model.specs.Parts.{AppParts, ClassParts, ProtoParts}
use Rattle.app_model.specs.Names.{wake_lock_name}
use Rattle.app_model.specs.Words.{no_body}
use Rattle.dex_file.specs.declared.parts.FileCode.{FileCode}
use Rattle.dex_file.specs.declared.parts.FileField.{FileField}
use Rattle.dex_file.specs.declared.parts.FileMethod.{FileMethod}
use Rattle.dex_file.specs.Content.{ClassContent, FileContent}
use Rattle.app_rows.specs.Numbers.{Numbers, Seen, numbers_of, seen_in}

abbrev pub type_no : ℕ → TypeNo
type_no n = record { 0 = n }

-- a row of a file's table as a type, a name or a prototype of the application; past the table it is number 0
abbrev pub type_of : Numbers → ℕ → TypeNo
type_of numbers t = type_no (slice_index numbers.types t)

abbrev pub name_of : Numbers → ℕ → NameNo
name_of numbers s = record { 0 = slice_index numbers.names s }

abbrev pub proto_no_of : Numbers → ℕ → ProtoNo
proto_no_of numbers p = record { 0 = slice_index numbers.protos p }

-- a prototype that is spelt by numbers: the result, and then the parameters
abbrev pub proto_row : List ℕ → ProtoParts
proto_row [] = record { result = type_no 0; params = [] }
proto_row (result ∷ params) = record { result = type_no result; params = map type_no params }

-- what is named by a row of a file's methods or fields
abbrev pub named : Numbers → MethodId → Named
named numbers id = record { class = type_of numbers id.class; name = name_of numbers id.name; proto = proto_no_of numbers id.proto }

abbrev pub named_field : Numbers → FieldId → NamedField
named_field numbers id = record { class = type_of numbers id.class; name = name_of numbers id.name; kind = type_of numbers id.kind }

-- a file's rows in the application: the numbers of its types, and what its rows of methods and fields name
pub record Rows : Type 0 where
  pub types : List ℕ
  pub methods : List Named
  pub fields : List NamedField

unfoldable pub rows_of : Seen → FileContent → Rows
rows_of seen file =
    let numbers = numbers_of seen file in
    record { types = numbers.types; methods = map (named numbers) file.methods; fields = map (named_field numbers) file.fields }

-- a row's type; past the table it is number 0, and so is all that is named past the other two
abbrev pub type_at : Rows → ℕ → TypeNo
type_at rows t = type_no (slice_index rows.types t)

abbrev pub method_at : Rows → ℕ → Named
method_at rows m = slice_index_or rows.methods m (record { class = type_no 0; name = record { 0 = 0 }; proto = record { 0 = 0 } })

abbrev pub field_at : Rows → ℕ → NamedField
field_at rows f = slice_index_or rows.fields f (record { class = type_no 0; name = record { 0 = 0 }; kind = type_no 0 })

abbrev pub class_row : Rows → ClassContent → ClassParts
class_row rows class = record {
  name = type_at rows class.kind;
  parent = option_map (type_at rows) class.parent;
  interfaces = map (type_at rows) class.interfaces;
  flags = class.flags;
}

abbrev pub field_row : Rows → ℕ → FileField → FieldRow
field_row rows class field =
    let it = field_at rows field.id in
    record { class = record { 0 = class }; name = it.name; kind = it.kind; flags = field.flags }

-- the registers of a method's code, and those of them that hold the arguments; 0 without code
abbrev pub registers_of : Option FileCode → ℕ
registers_of None = 0
registers_of (Some code) = code.body.registers

abbrev pub ins_of : Option FileCode → ℕ
ins_of None = 0
ins_of (Some code) = code.ins

abbrev pub method_row : Rows → ℕ → FileMethod → MethodRow
method_row rows class method =
    let it = method_at rows method.id in
    record {
      class = record { 0 = class };
      name = it.name;
      proto = it.proto;
      flags = method.flags;
      registers = registers_of method.code;
      ins = ins_of method.code;
    }

-- with the application's number for the type that is named
abbrev pub with_number : Rows → Naming → Ins → Ins
with_number rows (naming.Kind kind) own = with_kind (slice_index rows.types kind) own
with_number rows other own = own

-- an instruction of the application: its type has the application's number; its string, field and method stay rows of the file
unfoldable pub linked_ins : Rows → Ins → Ins
linked_ins rows own = with_number rows (naming_of own) own

abbrev pub linked_place : Rows → Place → Place
linked_place rows place = record {
  pc = place.pc;
  ins = linked_ins rows place.ins;
  successors = place.successors;
  handlers = place.handlers;
  leaves = place.leaves;
}

-- a method's code; without code there are no places
abbrev pub linked_body : Rows → Option FileCode → BodyRows
linked_body rows None = no_body
linked_body rows (Some code) = record { registers = code.body.registers; places = map (linked_place rows) code.body.places }

-- what an instruction names
abbrev pub operand_of : Rows → Naming → Operand
operand_of rows (naming.Field field) = operand.Access (field_at rows field)
operand_of rows (naming.Method method) = operand.Invoke (method_at rows method)
operand_of rows other = operand.Plain

abbrev pub operands_of : Rows → Option FileCode → List Operand
operands_of rows None = []
operands_of rows (Some code) = map (λ (place : Place). operand_of rows (naming_of place.ins)) code.body.places

-- classes and their members so far
pub record Members : Type 0 where
  pub classes : List ClassParts
  pub methods : List MethodRow
  pub fields : List FieldRow
  pub code : List BodyRows
  pub operands : List (List Operand)

-- with one more field, one more method of a class
abbrev pub with_field : Rows → ℕ → Members → FileField → Members
with_field rows class x field = record {
  classes = x.classes;
  methods = x.methods;
  fields = x.fields ++ field_row rows class field ∷ [];
  code = x.code;
  operands = x.operands;
}

abbrev pub with_method : Rows → ℕ → Members → FileMethod → Members
with_method rows class x method = record {
  classes = x.classes;
  methods = x.methods ++ method_row rows class method ∷ [];
  fields = x.fields;
  code = x.code ++ linked_body rows method.code ∷ [];
  operands = x.operands ++ operands_of rows method.code ∷ [];
}

abbrev pub with_name : Rows → ClassContent → Members → Members
with_name rows class x = record {
  classes = x.classes ++ class_row rows class ∷ [];
  methods = x.methods;
  fields = x.fields;
  code = x.code;
  operands = x.operands;
}

abbrev pub with_fields : Rows → ℕ → Members → List FileField → Members
with_fields rows class x fields = fold (with_field rows class) x fields

abbrev pub with_methods : Rows → ℕ → Members → List FileMethod → Members
with_methods rows class x methods = fold (with_method rows class) x methods

-- with one more class, whose number is that of the classes before it, and its members
unfoldable pub with_class : Rows → Members → ClassContent → Members
with_class rows x class =
    let n = length x.classes in
    let fields = with_fields rows n (with_fields rows n (with_name rows class x) class.statics) class.instances in
    with_methods rows n (with_methods rows n fields class.directs) class.virtuals

-- with those of one more file
unfoldable pub with_file : Seen → Members → FileContent → Members
with_file seen x file = fold (with_class (rows_of seen file)) x file.classes

abbrev pub no_members : Members
no_members = record { classes = []; methods = []; fields = []; code = []; operands = [] }

unfoldable pub members_in : Seen → List FileContent → Members
members_in seen files = fold (with_file seen) no_members files

-- the places, from a first one on, of the fields of the wake lock's type
abbrev pub locks_from : List (List ℕ) → ℕ → List FieldRow → List FieldNo
locks_from types n [] = []
locks_from types n (field ∷ more) =
    if bytes_eq (slice_index_or types field.kind.0 []) wake_lock_name
    then record { 0 = n } ∷ locks_from types (suc n) more else locks_from types (suc n) more

abbrev pub app_of : Seen → Members → AppParts
app_of seen members = record {
  types = seen.types;
  names = seen.names;
  protos = map proto_row seen.protos;
  classes = members.classes;
  methods = members.methods;
  fields = members.fields;
  locks = locks_from seen.types 0 members.fields;
  code = members.code;
  operands = members.operands;
}

-- the application of these files
unfoldable pub linked : List FileContent → AppParts
linked files = app_of (seen_in files) (members_in (seen_in files) files)
