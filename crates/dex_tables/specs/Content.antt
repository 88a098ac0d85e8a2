-- What the id tables of a DEX file say, as lists of rows.
use Rattle.std.specs.Prelude.{ℕ, ◌+◌, ◌<◌, ◌≤◌, ◌≡◌, List, length, ◌==◌, if◌then◌else◌, slice_index_or, Option, Some, None}
use Rattle.dex_bytes.specs.Places.{uleb_next}
use Rattle.dex_tables.specs.declared.tables.Slice.{Slice}
use Rattle.dex_tables.specs.declared.tables.ProtoId.{ProtoId}
use Rattle.dex_tables.specs.declared.tables.FieldId.{FieldId}
use Rattle.dex_tables.specs.declared.tables.MethodId.{MethodId}
use Rattle.dex_tables.specs.declared.tables.ClassDef.{ClassDef}
use Rattle.dex_tables.specs.Rows.{string_count, type_count, proto_count, field_count, method_count, class_count, string_data, string_text, type_string, proto_shorty, proto_result, proto_params, field_class, field_type, field_name, method_class, method_proto, method_name, class_type, class_flags, class_parent, no_parent, class_interfaces, class_data, list_size, list_entry}
use Rattle.dex_tables.specs.Sound.{sum_below, list_total, AreSoundTables}

-- the rows of the tables, and the entries of all type lists one after another: those of the prototypes'
-- parameters by row, then those of the classes' interfaces by row
pub record IdTables : Type 0 where
  pub strings : List Slice
  pub types : List ℕ
  pub protos : List ProtoId
  pub fields : List FieldId
  pub methods : List MethodId
  pub classes : List ClassDef
  pub lists : List ℕ

-- how many entries come before those of the parameters of prototype p
abbrev pub params_before : List ℕ → ℕ → ℕ
params_before bs p = sum_below (λ q. list_size bs (proto_params bs q)) p

-- how many entries come before those of the interfaces of class c
abbrev pub interfaces_before : List ℕ → ℕ → ℕ
interfaces_before bs c = params_before bs (proto_count bs) + sum_below (λ d. list_size bs (class_interfaces bs d)) c

-- where the bytes of string i stand, and how many they are
abbrev pub string_slice : List ℕ → ℕ → Slice
string_slice bs i = record { at = uleb_next bs (string_data bs i); len = length (string_text bs i) }

abbrev pub proto_id : List ℕ → ℕ → ProtoId
proto_id bs p = record {
  shorty = proto_shorty bs p;
  result = proto_result bs p;
  params = record { at = params_before bs p; len = list_size bs (proto_params bs p) };
}

abbrev pub field_id : List ℕ → ℕ → FieldId
field_id bs f = record { class = field_class bs f; kind = field_type bs f; name = field_name bs f }

abbrev pub method_id : List ℕ → ℕ → MethodId
method_id bs m = record { class = method_class bs m; proto = method_proto bs m; name = method_name bs m }

-- a type, or none
abbrev pub parent_or_none : ℕ → Option ℕ
parent_or_none n = if n == no_parent then None else Some n

abbrev pub class_def : List ℕ → ℕ → ClassDef
class_def bs c = record {
  class = class_type bs c;
  flags = class_flags bs c;
  parent = parent_or_none (class_parent bs c);
  interfaces = record { at = interfaces_before bs c; len = list_size bs (class_interfaces bs c) };
  members = class_data bs c;
}

-- so many rows, and row i is what the function gives for i
pub record AreRows {T : Type 0} (rows : List T) (n : ℕ) (row : ℕ → T) : Type 0 where
  pub count : length rows ≡ n
  pub each : (i : ℕ) (d : T) → i < n → slice_index_or rows i d ≡ row i

-- the entries of all type lists of the file
pub record AreLists (bs lists : List ℕ) : Type 0 where
  pub count : length lists ≡ list_total bs
  pub params : (p k d : ℕ) → p < proto_count bs → k < list_size bs (proto_params bs p)
      → slice_index_or lists (params_before bs p + k) d ≡ list_entry bs (proto_params bs p) k
  pub interfaces : (c k d : ℕ) → c < class_count bs → k < list_size bs (class_interfaces bs c)
      → slice_index_or lists (interfaces_before bs c + k) d ≡ list_entry bs (class_interfaces bs c) k
  -- so each list lies in them
  pub params_end : (p : ℕ) → p < proto_count bs → params_before bs p + list_size bs (proto_params bs p) ≤ length lists
  pub interfaces_end : (c : ℕ) → c < class_count bs → interfaces_before bs c + list_size bs (class_interfaces bs c) ≤ length lists

-- these are the tables of the file: every row says what its place says, and is sound
pub record AreTablesOf (bs : List ℕ) (tables : IdTables) : Type 0 where
  pub sound : AreSoundTables bs
  pub strings : AreRows tables.strings (string_count bs) (string_slice bs)
  pub types : AreRows tables.types (type_count bs) (type_string bs)
  pub protos : AreRows tables.protos (proto_count bs) (proto_id bs)
  pub fields : AreRows tables.fields (field_count bs) (field_id bs)
  pub methods : AreRows tables.methods (method_count bs) (method_id bs)
  pub classes : AreRows tables.classes (class_count bs) (class_def bs)
  pub lists : AreLists bs tables.lists
