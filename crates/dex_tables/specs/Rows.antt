-- The id tables of a DEX file by offsets: what each row says, read at its own place.
use Rattle.std.specs.Prelude.{ℕ, ◌+◌, ◌*◌, List, ◌==◌, if◌then◌else◌}
use Rattle.dex_bytes.specs.Numbers.{u16_at, u32_at}
use Rattle.dex_bytes.specs.Header.{header_of}
use Rattle.dex_bytes.specs.Places.{uleb_value, uleb_next, text_at}

abbrev pub string_count : List ℕ → ℕ
string_count bs = (header_of bs).strings.size

abbrev pub type_count : List ℕ → ℕ
type_count bs = (header_of bs).types.size

abbrev pub proto_count : List ℕ → ℕ
proto_count bs = (header_of bs).protos.size

abbrev pub field_count : List ℕ → ℕ
field_count bs = (header_of bs).fields.size

abbrev pub method_count : List ℕ → ℕ
method_count bs = (header_of bs).methods.size

abbrev pub class_count : List ℕ → ℕ
class_count bs = (header_of bs).classes.size

-- string ids: four bytes a row, the offset of the string's data
unfoldable pub string_data : List ℕ → ℕ → ℕ
string_data bs i = u32_at bs ((header_of bs).strings.off + 4 * i)

-- how many UTF-16 units the string has
unfoldable pub string_units : List ℕ → ℕ → ℕ
string_units bs i = uleb_value bs (string_data bs i)

-- the string's MUTF-8 bytes
unfoldable pub string_text : List ℕ → ℕ → List ℕ
string_text bs i = text_at bs (uleb_next bs (string_data bs i))

-- type ids: four bytes a row, the string of the type's name
unfoldable pub type_string : List ℕ → ℕ → ℕ
type_string bs t = u32_at bs ((header_of bs).types.off + 4 * t)

unfoldable pub type_name : List ℕ → ℕ → List ℕ
type_name bs t = string_text bs (type_string bs t)

-- proto ids: twelve bytes a row
abbrev pub proto_row : List ℕ → ℕ → ℕ
proto_row bs p = (header_of bs).protos.off + 12 * p

unfoldable pub proto_shorty : List ℕ → ℕ → ℕ
proto_shorty bs p = u32_at bs (proto_row bs p)

unfoldable pub proto_result : List ℕ → ℕ → ℕ
proto_result bs p = u32_at bs (proto_row bs p + 4)

-- the offset of the parameters' type list
unfoldable pub proto_params : List ℕ → ℕ → ℕ
proto_params bs p = u32_at bs (proto_row bs p + 8)

-- field ids: eight bytes a row
abbrev pub field_row : List ℕ → ℕ → ℕ
field_row bs f = (header_of bs).fields.off + 8 * f

unfoldable pub field_class : List ℕ → ℕ → ℕ
field_class bs f = u16_at bs (field_row bs f)

unfoldable pub field_type : List ℕ → ℕ → ℕ
field_type bs f = u16_at bs (field_row bs f + 2)

unfoldable pub field_name : List ℕ → ℕ → ℕ
field_name bs f = u32_at bs (field_row bs f + 4)

-- method ids: eight bytes a row
abbrev pub method_row : List ℕ → ℕ → ℕ
method_row bs m = (header_of bs).methods.off + 8 * m

unfoldable pub method_class : List ℕ → ℕ → ℕ
method_class bs m = u16_at bs (method_row bs m)

unfoldable pub method_proto : List ℕ → ℕ → ℕ
method_proto bs m = u16_at bs (method_row bs m + 2)

unfoldable pub method_name : List ℕ → ℕ → ℕ
method_name bs m = u32_at bs (method_row bs m + 4)

-- class definitions: 32 bytes a row
abbrev pub class_row : List ℕ → ℕ → ℕ
class_row bs c = (header_of bs).classes.off + 32 * c

unfoldable pub class_type : List ℕ → ℕ → ℕ
class_type bs c = u32_at bs (class_row bs c)

unfoldable pub class_flags : List ℕ → ℕ → ℕ
class_flags bs c = u32_at bs (class_row bs c + 4)

-- the type of the superclass, or no_parent
unfoldable pub class_parent : List ℕ → ℕ → ℕ
class_parent bs c = u32_at bs (class_row bs c + 8)

abbrev pub no_parent : ℕ
no_parent = 4294967295

-- the offset of the type list of the interfaces
unfoldable pub class_interfaces : List ℕ → ℕ → ℕ
class_interfaces bs c = u32_at bs (class_row bs c + 12)

-- the offset of the class data
unfoldable pub class_data : List ℕ → ℕ → ℕ
class_data bs c = u32_at bs (class_row bs c + 24)

-- a type list: four bytes for the number of entries, two an entry. At offset 0 stands the empty one.
unfoldable pub list_size : List ℕ → ℕ → ℕ
list_size bs off = if off == 0 then 0 else u32_at bs off

unfoldable pub list_entry : List ℕ → ℕ → ℕ → ℕ
list_entry bs off k = u16_at bs (off + 4 + 2 * k)
