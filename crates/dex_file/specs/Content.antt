-- What a DEX file says, in plain lists. A number of a string, type, prototype, field or method is a row of
-- the file's own tables.
use Rattle.std.specs.Prelude.{ℕ, suc, ◌+◌, ◌≡◌, ◌≢◌, ◌≤◌, ◌==◌, List, [], ◌∷◌, length, map, take, drop, nat_lt, if◌then◌else◌, option_map, slice_get, slice_index_or, Option, Some, None, Ok}
use Rattle.std.specs.List.{sum_by}
use Rattle.ns_base.specs.Answers.{limit_of}
use Rattle.ns_base.specs.declared.answers.Counted.TheVariants.{Members, Units, Handlers}
use Rattle.dex_bytes.specs.Header.{IsHeader}
use Rattle.dex_tables.specs.declared.tables.Slice.{Slice}
use Rattle.dex_tables.specs.declared.tables.ProtoId.{ProtoId}
use Rattle.dex_tables.specs.declared.tables.FieldId.{FieldId}
use Rattle.dex_tables.specs.declared.tables.MethodId.{MethodId}
use Rattle.dex_tables.specs.declared.tables.ClassDef.{ClassDef}
use Rattle.dex_tables.specs.Content.{IdTables, AreTablesOf}
use Rattle.dex_tables.specs.Reading.{list_below}
use Rattle.dex_tables.specs.Rows.{string_count, string_text}
use Rattle.dex_code.specs.declared.members.Member.{Member}
use Rattle.dex_code.specs.CodeItem.{code_len, code_tries}
use Rattle.dex_code.specs.Content.{MemberLists, CodeContent, AreMembersOf, IsCodeOf}
use Rattle.dex_code.specs.HandlerPart.{handlers_before}
use Rattle.method_graph.specs.Graph.{graph_of}
use Rattle.dex_file.specs.declared.parts.FileCode.{FileCode}
use Rattle.dex_file.specs.declared.parts.FileField.{FileField}
use Rattle.dex_file.specs.declared.parts.FileMethod.{FileMethod}

-- a prototype: the string of its shorty, the type of the result, and the types of the parameters
pub record ProtoContent : Type 0 where
  pub shorty : ℕ
  pub result : ℕ
  pub params : List ℕ

-- a class row: its type, its flags, the type of its superclass and those of its interfaces, and its members
pub record ClassContent : Type 0 where
  pub kind : ℕ
  pub flags : ℕ
  pub parent : Option ℕ
  pub interfaces : List ℕ
  pub statics : List FileField
  pub instances : List FileField
  pub directs : List FileMethod
  pub virtuals : List FileMethod

-- a file: the bytes of its strings, the strings of its types, and the rows of the other tables
pub record FileContent : Type 0 where
  pub strings : List (List ℕ)
  pub types : List ℕ
  pub protos : List ProtoContent
  pub fields : List FieldId
  pub methods : List MethodId
  pub classes : List ClassContent
  -- code units, summed over the methods
  pub units : ℕ

-- the bytes of a string of a file, and the descriptor of a type; empty past the tables
abbrev pub string_in : FileContent → Option ℕ → List ℕ
string_in file None = []
string_in file (Some s) = slice_index_or file.strings s []

abbrev pub type_text : FileContent → Option ℕ → List ℕ
type_text file None = []
type_text file (Some t) = string_in file (slice_get file.types t)

-- the name of class row c
abbrev pub class_text : FileContent → ℕ → List ℕ
class_text file c = type_text file (option_map (λ (class : ClassContent). class.kind) (slice_get file.classes c))

-- a part of the entries of all type lists
abbrev pub list_in : List ℕ → Slice → List ℕ
list_in lists part = take part.len (drop part.at lists)

abbrev pub proto_of : List ℕ → ProtoId → ProtoContent
proto_of lists row = record { shorty = row.shorty; result = row.result; params = list_in lists row.params }

abbrev pub field_of : Member → FileField
field_of member = record { id = member.id; flags = member.flags }

-- a method with this code
abbrev pub method_of : Member → Option FileCode → FileMethod
method_of member own = record { id = member.id; flags = member.flags; code = own }

-- a class row with these methods
abbrev pub class_of : List ℕ → ClassDef → MemberLists → (directs virtuals : List FileMethod) → ClassContent
class_of lists row members directs virtuals = record {
  kind = row.class;
  flags = row.flags;
  parent = row.parent;
  interfaces = list_in lists row.interfaces;
  statics = map field_of members.statics;
  instances = map field_of members.instances;
  directs = directs;
  virtuals = virtuals;
}

-- a file with these tables, these classes and so many code units
abbrev pub file_of : List ℕ → IdTables → List ClassContent → ℕ → FileContent
file_of bs tables classes units = record {
  strings = list_below (string_text bs) (string_count bs);
  types = tables.types;
  protos = map (proto_of tables.lists) tables.protos;
  fields = tables.fields;
  methods = tables.methods;
  classes = classes;
  units = units;
}

-- the same by the bytes of a file and its tables
abbrev pub string_by : List ℕ → Option ℕ → List ℕ
string_by bs None = []
string_by bs (Some s) = if nat_lt s (string_count bs) then string_text bs s else []

abbrev pub type_by : List ℕ → IdTables → Option ℕ → List ℕ
type_by bs tables None = []
type_by bs tables (Some t) = string_by bs (slice_get tables.types t)

abbrev pub row_text : List ℕ → IdTables → ℕ → List ℕ
row_text bs tables c = type_by bs tables (option_map (λ (row : ClassDef). row.class) (slice_get tables.classes c))

-- this is the code that stands at a member's offset, with its control flow
pub record IsBodyAt (bs : List ℕ) (member : Member) (own : FileCode) : Type 0 where
  pub item : CodeContent
  pub offset : member.code ≢ 0
  pub stands : IsCodeOf bs member.code item
  pub ins : own.ins ≡ item.ins
  pub graph : graph_of bs member.id member.flags item ≡ Ok own.body

-- this is the code of a member: none where its offset is 0
abbrev pub IsOwnCode : List ℕ → Member → Option FileCode → Type 0
IsOwnCode bs member None = member.code ≡ 0
IsOwnCode bs member (Some own) = IsBodyAt bs member own

-- this is the method that a member of a class is
pub record IsMethodOf (bs : List ℕ) (member : Member) (method : FileMethod) : Type 0 where
  pub row : method ≡ method_of member method.code
  pub own : IsOwnCode bs member method.code

-- each is the method of its member
pub data AreMethodsOf (bs : List ℕ) : List Member → List FileMethod → Type 0 where
  no_methods : AreMethodsOf bs [] []
  method : {member : Member} {own : FileMethod} {members : List Member} {methods : List FileMethod} → IsMethodOf bs member own → AreMethodsOf bs members methods → AreMethodsOf bs (member ∷ members) (own ∷ methods)

-- this is the content of class row c, which has these members
pub record IsClassOf (bs lists : List ℕ) (c : ℕ) (row : ClassDef) (members : MemberLists) (content : ClassContent) : Type 0 where
  pub stand : AreMembersOf bs c members
  pub fields : content ≡ class_of lists row members content.directs content.virtuals
  pub directs : AreMethodsOf bs members.directs content.directs
  pub virtuals : AreMethodsOf bs members.virtuals content.virtuals

-- these are the contents of class rows, from row c on
pub data AreClassesOf (bs lists : List ℕ) : ℕ → List ClassDef → List MemberLists → List ClassContent → Type 0 where
  no_classes : {c : ℕ} → AreClassesOf bs lists c [] [] []
  class : {c : ℕ} {row : ClassDef} {members : MemberLists} {content : ClassContent} {rows : List ClassDef} {more : List MemberLists} {contents : List ClassContent} → IsClassOf bs lists c row members content → AreClassesOf bs lists (suc c) rows more contents → AreClassesOf bs lists c (row ∷ rows) (members ∷ more) (content ∷ contents)

-- how many members a class has
abbrev pub member_count : MemberLists → ℕ
member_count members = length members.statics + length members.instances + length members.directs + length members.virtuals

-- how many code units a method has
abbrev pub unit_count : List ℕ → Member → ℕ
unit_count bs member = if member.code == 0 then 0 else code_len bs member.code

-- how many handlers its tries have
abbrev pub handler_count : List ℕ → Member → ℕ
handler_count bs member = if member.code == 0 then 0 else handlers_before bs member.code (code_tries bs member.code)

-- what is counted, summed over the methods of a class
abbrev pub over_methods : (Member → ℕ) → MemberLists → ℕ
over_methods count members = sum_by count members.directs + sum_by count members.virtuals

-- this is the content of a file: the header and the tables stand there, and the members and the code items of
-- all class rows, each within its limit, and all within the limits of a file
pub record IsContentOf (bs : List ℕ) (content : FileContent) : Type 0 where
  pub header : IsHeader bs
  pub tables : IdTables
  pub stand : AreTablesOf bs tables
  -- the members of each class
  pub members : List MemberLists
  pub classes : AreClassesOf bs tables.lists 0 tables.classes members content.classes
  pub rest : content ≡ file_of bs tables content.classes (sum_by (over_methods (unit_count bs)) members)
  pub member_limit : sum_by member_count members ≤ limit_of Members
  pub unit_limit : sum_by (over_methods (unit_count bs)) members ≤ limit_of Units
  pub handler_limit : sum_by (over_methods (handler_count bs)) members ≤ limit_of Handlers
