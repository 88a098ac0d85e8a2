-- Class data: LEB128 numbers one after another. First the counts of static fields, instance fields, direct
-- methods and virtual methods, then two numbers a field (index difference, flags) and three a method
-- (index difference, flags, code offset).
use Rattle.std.specs.Prelude.{ℕ, ◌+◌, ◌*◌, ◌<◌, ◌≡◌, List}
use Rattle.dex_bytes.specs.Places.{number_at}
use Rattle.dex_tables.specs.Rows.{field_count, method_count, field_class, method_class, class_type, type_name}
use Rattle.dex_tables.specs.Sound.{sum_below}
use Rattle.dex_code.specs.declared.class_data.Kind.{Kind}
use Rattle.dex_code.specs.declared.class_data.Kind.TheVariants.{Field, Method}
use Rattle.dex_code.specs.declared.members.Member.{Member}

abbrev pub static_count : List ℕ → ℕ → ℕ
static_count bs p = number_at bs p 0

abbrev pub instance_count : List ℕ → ℕ → ℕ
instance_count bs p = number_at bs p 1

abbrev pub direct_count : List ℕ → ℕ → ℕ
direct_count bs p = number_at bs p 2

abbrev pub virtual_count : List ℕ → ℕ → ℕ
virtual_count bs p = number_at bs p 3

-- how many numbers the class data has
abbrev pub number_count : List ℕ → ℕ → ℕ
number_count bs p = 4 + 2 * static_count bs p + 2 * instance_count bs p + 3 * direct_count bs p + 3 * virtual_count bs p

-- how many numbers an entry has
abbrev pub width_of : Kind → ℕ
width_of Field = 2
width_of Method = 3

-- a list of entries: of which kind, with which number the first begins, and how many they are
pub record EntryList : Type 0 where
  pub kind : Kind
  pub first : ℕ
  pub count : ℕ

abbrev pub statics_of : List ℕ → ℕ → EntryList
statics_of bs p = record { kind = Field; first = 4; count = static_count bs p }

abbrev pub instances_of : List ℕ → ℕ → EntryList
instances_of bs p = record { kind = Field; first = 4 + 2 * static_count bs p; count = instance_count bs p }

abbrev pub directs_of : List ℕ → ℕ → EntryList
directs_of bs p = record {
  kind = Method;
  first = 4 + 2 * static_count bs p + 2 * instance_count bs p;
  count = direct_count bs p;
}

abbrev pub virtuals_of : List ℕ → ℕ → EntryList
virtuals_of bs p = record {
  kind = Method;
  first = 4 + 2 * static_count bs p + 2 * instance_count bs p + 3 * direct_count bs p;
  count = virtual_count bs p;
}

-- the number of the class data with which entry i of a list begins
abbrev pub entry_number : EntryList → ℕ → ℕ
entry_number l i = l.first + width_of l.kind * i

-- how far the index of entry i is above that of the entry before it, or above 0
abbrev pub index_difference : List ℕ → ℕ → EntryList → ℕ → ℕ
index_difference bs p l i = number_at bs p (entry_number l i)

-- the row that entry i names
abbrev pub entry_index : List ℕ → ℕ → EntryList → ℕ → ℕ
entry_index bs p l i = sum_below (index_difference bs p l) i + index_difference bs p l i

-- fields have no code
abbrev pub code_number : List ℕ → ℕ → Kind → ℕ → ℕ
code_number bs p Field k = 0
code_number bs p Method k = number_at bs p k

-- what entry i says
abbrev pub entry_of : List ℕ → ℕ → EntryList → ℕ → Member
entry_of bs p l i = record {
  id = entry_index bs p l i;
  flags = number_at bs p (entry_number l i + 1);
  code = code_number bs p l.kind (entry_number l i + 2);
}

-- how many rows the table of this kind has
abbrev pub row_count : List ℕ → Kind → ℕ
row_count bs Field = field_count bs
row_count bs Method = method_count bs

-- the class of a row of that table
abbrev pub row_class : List ℕ → Kind → ℕ → ℕ
row_class bs Field i = field_class bs i
row_class bs Method i = method_class bs i

-- a row of that table is of the class, by the bytes of the two types' names
unfoldable pub IsOfClass : List ℕ → ℕ → Kind → ℕ → Type 0
IsOfClass bs class kind i = type_name bs (row_class bs kind i) ≡ type_name bs (class_type bs class)

-- an entry names a row of its table, a further one, of the class
pub record IsSoundEntry (bs : List ℕ) (class p : ℕ) (l : EntryList) (i : ℕ) : Type 0 where
  pub within : entry_index bs p l i < row_count bs l.kind
  pub further : 0 < i → 0 < index_difference bs p l i
  pub own : IsOfClass bs class l.kind (entry_index bs p l i)
