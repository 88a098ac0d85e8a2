-- When the rows of the id tables are sound: each lies in the file, and what it names is there.
use Rattle.std.specs.Prelude.{ℕ, zero, suc, ◌+◌, ◌*◌, ◌<◌, ◌≤◌, ◌≢◌, List, length}
use Rattle.ns_base.specs.Answers.{limit_of}
use Rattle.ns_base.specs.declared.answers.Counted.TheVariants.{Strings, TypeLists}
use Rattle.dex_bytes.specs.declared.layout.Part.{Part}
use Rattle.dex_bytes.specs.Header.{header_of}
use Rattle.dex_bytes.specs.Places.{IsUleb, uleb_next}
use Rattle.dex_bytes.specs.Mutf8.{IsMutf8}
use Rattle.dex_tables.specs.Rows.{string_count, type_count, proto_count, field_count, method_count, class_count, string_data, string_units, string_text, type_string, proto_shorty, proto_result, proto_params, field_class, field_type, field_name, method_class, method_proto, method_name, class_type, class_parent, no_parent, class_interfaces, list_size, list_entry}

-- the rows of a table, of so many bytes each, lie in the file; an empty table begins in it or at its end
abbrev pub IsInFile : List ℕ → Part → ℕ → Type 0
IsInFile bs part width = part.off + width * part.size ≤ length bs

-- f 0 + f 1 + .. below n
abbrev pub sum_below : (ℕ → ℕ) → ℕ → ℕ
sum_below f zero = 0
sum_below f (suc n) = sum_below f n + f n

pub record IsSoundString (bs : List ℕ) (i : ℕ) : Type 0 where
  pub number : IsUleb bs (string_data bs i)
  -- a zero byte ends the text
  pub closed : uleb_next bs (string_data bs i) + length (string_text bs i) < length bs
  pub spelled : IsMutf8 (string_text bs i) (string_units bs i)

abbrev pub IsSoundType : List ℕ → ℕ → Type 0
IsSoundType bs t = type_string bs t < string_count bs

-- the entries of a list that stands in the file are types
pub record IsSoundEntries (bs : List ℕ) (off : ℕ) : Type 0 where
  pub front : off + 4 ≤ length bs
  pub rows : off + 4 + 2 * list_size bs off ≤ length bs
  pub entries : (k : ℕ) → k < list_size bs off → list_entry bs off k < type_count bs

-- there is no list, or a sound one
abbrev pub IsSoundList : List ℕ → ℕ → Type 0
IsSoundList bs off = off ≢ 0 → IsSoundEntries bs off

pub record IsSoundProto (bs : List ℕ) (p : ℕ) : Type 0 where
  pub shorty : proto_shorty bs p < string_count bs
  pub gives : proto_result bs p < type_count bs
  pub params : IsSoundList bs (proto_params bs p)

pub record IsSoundField (bs : List ℕ) (f : ℕ) : Type 0 where
  pub owner : field_class bs f < type_count bs
  pub kind : field_type bs f < type_count bs
  pub name : field_name bs f < string_count bs

pub record IsSoundMethod (bs : List ℕ) (m : ℕ) : Type 0 where
  pub owner : method_class bs m < type_count bs
  pub proto : method_proto bs m < proto_count bs
  pub name : method_name bs m < string_count bs

pub record IsSoundClass (bs : List ℕ) (c : ℕ) : Type 0 where
  pub itself : class_type bs c < type_count bs
  pub parent : class_parent bs c ≢ no_parent → class_parent bs c < type_count bs
  pub interfaces : IsSoundList bs (class_interfaces bs c)

-- bytes of string content, summed over the string ids
abbrev pub string_total : List ℕ → ℕ
string_total bs = sum_below (λ i. length (string_text bs i)) (string_count bs)

-- entries of type lists, summed over prototypes and classes
abbrev pub list_total : List ℕ → ℕ
list_total bs =
    sum_below (λ p. list_size bs (proto_params bs p)) (proto_count bs)
    + sum_below (λ c. list_size bs (class_interfaces bs c)) (class_count bs)

-- the header and the tables lie in the file
pub record AreInFile (bs : List ℕ) : Type 0 where
  pub header : 112 ≤ length bs
  pub strings : IsInFile bs (header_of bs).strings 4
  pub types : IsInFile bs (header_of bs).types 4
  pub protos : IsInFile bs (header_of bs).protos 12
  pub fields : IsInFile bs (header_of bs).fields 8
  pub methods : IsInFile bs (header_of bs).methods 8
  pub classes : IsInFile bs (header_of bs).classes 32

-- every row of every table is sound, within the limits
pub record AreSoundTables (bs : List ℕ) : Type 0 where
  pub in_file : AreInFile bs
  pub strings : (i : ℕ) → i < string_count bs → IsSoundString bs i
  pub types : (t : ℕ) → t < type_count bs → IsSoundType bs t
  pub protos : (p : ℕ) → p < proto_count bs → IsSoundProto bs p
  pub fields : (f : ℕ) → f < field_count bs → IsSoundField bs f
  pub methods : (m : ℕ) → m < method_count bs → IsSoundMethod bs m
  pub classes : (c : ℕ) → c < class_count bs → IsSoundClass bs c
  pub string_limit : string_total bs ≤ limit_of Strings
  pub list_limit : list_total bs ≤ limit_of TypeLists
