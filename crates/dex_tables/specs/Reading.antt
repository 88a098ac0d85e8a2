-- The order in which the id tables are read, with the first fault. Here `head` is what the header says.
use Rattle.std.specs.Prelude.{ℕ, zero, suc, ◌+◌, ◌-◌, ◌*◌, ◌≡◌, ◌≢◌, ◌≤◌, List, [], ◌∷◌, ◌++◌, length, nat_lt, ◌==◌, if◌then◌else◌, Option, Some, None, Result, Ok, Err}
use Rattle.ns_base.specs.Answers.{limit_of}
use Rattle.ns_base.specs.declared.answers.Counted.TheVariants.{Strings, TypeLists}
use Rattle.dex_bytes.specs.declared.fault.DexFault.{DexFault}
use Rattle.dex_bytes.specs.declared.fault.DexFault.TheVariants.{Short, TableRange, Index, Limit, Memory}
use Rattle.dex_bytes.specs.declared.layout.Part.{Part}
use Rattle.dex_bytes.specs.declared.layout.Header.{Header}
use Rattle.dex_bytes.specs.Header.{header_of}
use Rattle.dex_bytes.specs.Leb128.{uleb_at}
use Rattle.dex_bytes.specs.Mutf8.{mutf8_at}
use Rattle.dex_bytes.specs.Numbers.{u16_at, u32_at}
use Rattle.dex_bytes.specs.Places.{uleb_next, text_at}
use Rattle.dex_tables.specs.declared.tables.Slice.{Slice}
use Rattle.dex_tables.specs.declared.tables.ProtoId.{ProtoId}
use Rattle.dex_tables.specs.declared.tables.FieldId.{FieldId}
use Rattle.dex_tables.specs.declared.tables.MethodId.{MethodId}
use Rattle.dex_tables.specs.declared.tables.ClassDef.{ClassDef}
use Rattle.dex_tables.specs.declared.stop.Stop.{Stop}
use Rattle.dex_tables.specs.declared.stop.Stop.TheVariants as stops
use Rattle.dex_tables.specs.Rows.{no_parent, list_size, list_entry}
use Rattle.dex_tables.specs.Sound.{sum_below}
use Rattle.dex_tables.specs.Content.{IdTables}

infixl 10 ◌>>=◌
abbrev pub ◌>>=◌ : {A B : Type 0} → Result A DexFault → (A → Result B DexFault) → Result B DexFault
(Ok x) >>= f = f x
(Err e) >>= f = Err e

-- a call answered what the bytes give, or ran out of memory
abbrev pub IsReading : {T : Type 0} → Result T DexFault → Result T DexFault → Type 0
IsReading (Ok x) wanted = wanted ≡ Ok x
IsReading (Err e) wanted = e ≢ Memory → wanted ≡ Err e

-- the same of a part of the reading, with what it gave seen as a list
abbrev pub Stops : {Y : Type 0} → Stop → Result Y DexFault → Type 0
Stops stops.Memory wanted = Unit {0}
Stops (stops.Fault fault) wanted = wanted ≡ Err fault

abbrev pub Gives : {X Y : Type 0} → (X → Y) → Result X Stop → Result Y DexFault → Type 0
Gives view (Ok x) wanted = wanted ≡ Ok (view x)
Gives view (Err stop) wanted = Stops stop wanted

-- f 0, f 1, .. below n
abbrev pub list_below : {T : Type 0} → (ℕ → T) → ℕ → List T
list_below f zero = []
list_below f (suc n) = list_below f n ++ f n ∷ []

-- the lists f 0, f 1, .. below n, one after another
abbrev pub joined_below : {T : Type 0} → (ℕ → List T) → ℕ → List T
joined_below f zero = []
joined_below f (suc n) = joined_below f n ++ f n

-- what f gives for 0, 1, .. below n, or its first fault
abbrev pub rows_below : {T : Type 0} → (ℕ → Result T DexFault) → ℕ → Result (List T) DexFault
rows_below f zero = Ok []
rows_below f (suc n) = do
  rows ← rows_below f n
  row ← f n
  Ok (rows ++ row ∷ [])

-- all rows of a table, of so many bytes each, where it lies in the file
abbrev pub table_at : {T : Type 0} → List ℕ → ℕ → Part → ℕ → (ℕ → Result T DexFault) → Result (List T) DexFault
table_at bs table part width row =
    if nat_lt (length bs) (part.off + width * part.size) then Err (TableRange table)
    else rows_below row part.size

-- the number n in a row of a table names a row of another, which has so many
abbrev pub named : (table row rows n : ℕ) → Result ℕ DexFault
named table row rows n = if nat_lt n rows then Ok n else Err (Index table row n)

-- the data of a string, where so many bytes came before
unfoldable pub string_at : List ℕ → (before off : ℕ) → Result Slice DexFault
string_at bs before off = do
  units ← uleb_at bs off
  end ← mutf8_at bs units.1 units.0
  if nat_lt (limit_of Strings) (before + (end - units.1)) then Err (Limit Strings)
      else Ok (record { at = units.1; len = end - units.1 })

-- the entries of a type list that a row of a table names
abbrev pub entries_at : List ℕ → (table row types off : ℕ) → Result (List ℕ) DexFault
entries_at bs table row types off = rows_below (λ k. named table row types (list_entry bs off k)) (list_size bs off)

-- a type list that a row of a table names, where so many entries came before
unfoldable pub list_at : List ℕ → (table row types before off : ℕ) → Result Slice DexFault
list_at bs table row types before off =
    if off == 0 then Ok (record { at = before; len = 0 })
    else if nat_lt (length bs) (off + 4) then Err (Short off)
    else if nat_lt (length bs) (off + 4 + 2 * list_size bs off) then Err (Short (off + 4))
    else do
      entries ← entries_at bs table row types off
      if nat_lt (limit_of TypeLists) (before + list_size bs off) then Err (Limit TypeLists)
          else Ok (record { at = before; len = list_size bs off })

-- an offset of a type list that was read, where so many entries came before
pub record IsListThere (bs : List ℕ) (before off : ℕ) : Type 0 where
  pub in_file : off ≢ 0 → off + 4 + 2 * list_size bs off ≤ length bs
  pub limit : before + list_size bs off ≤ limit_of TypeLists

-- strings
abbrev pub string_off : List ℕ → Header → ℕ → ℕ
string_off bs head i = u32_at bs (head.strings.off + 4 * i)

abbrev pub string_len : List ℕ → Header → ℕ → ℕ
string_len bs head i = length (text_at bs (uleb_next bs (string_off bs head i)))

abbrev pub string_in : List ℕ → Header → ℕ → Result Slice DexFault
string_in bs head i = string_at bs (sum_below (string_len bs head) i) (string_off bs head i)

abbrev pub strings_at : List ℕ → Header → Result (List Slice) DexFault
strings_at bs head = table_at bs 0 head.strings 4 (string_in bs head)

-- types
abbrev pub type_in : List ℕ → Header → ℕ → Result ℕ DexFault
type_in bs head t = named 1 t head.strings.size (u32_at bs (head.types.off + 4 * t))

abbrev pub types_at : List ℕ → Header → Result (List ℕ) DexFault
types_at bs head = table_at bs 1 head.types 4 (type_in bs head)

-- prototypes
abbrev pub params_off : List ℕ → Header → ℕ → ℕ
params_off bs head p = u32_at bs (head.protos.off + 12 * p + 8)

abbrev pub params_total : List ℕ → Header → ℕ → ℕ
params_total bs head p = sum_below (λ q. list_size bs (params_off bs head q)) p

unfoldable pub proto_at : List ℕ → Header → (before p : ℕ) → Result ProtoId DexFault
proto_at bs head before p = do
  shorty ← named 2 p head.strings.size (u32_at bs (head.protos.off + 12 * p))
  gives ← named 2 p head.types.size (u32_at bs (head.protos.off + 12 * p + 4))
  params ← list_at bs 2 p head.types.size before (params_off bs head p)
  Ok (record { shorty = shorty; result = gives; params = params })

abbrev pub proto_in : List ℕ → Header → ℕ → Result ProtoId DexFault
proto_in bs head p = proto_at bs head (params_total bs head p) p

abbrev pub protos_at : List ℕ → Header → Result (List ProtoId) DexFault
protos_at bs head = table_at bs 2 head.protos 12 (proto_in bs head)

-- fields
unfoldable pub field_in : List ℕ → Header → ℕ → Result FieldId DexFault
field_in bs head f = do
  owner ← named 3 f head.types.size (u16_at bs (head.fields.off + 8 * f))
  kind ← named 3 f head.types.size (u16_at bs (head.fields.off + 8 * f + 2))
  name ← named 3 f head.strings.size (u32_at bs (head.fields.off + 8 * f + 4))
  Ok (record { class = owner; kind = kind; name = name })

abbrev pub fields_at : List ℕ → Header → Result (List FieldId) DexFault
fields_at bs head = table_at bs 3 head.fields 8 (field_in bs head)

-- methods
unfoldable pub method_in : List ℕ → Header → ℕ → Result MethodId DexFault
method_in bs head m = do
  owner ← named 4 m head.types.size (u16_at bs (head.methods.off + 8 * m))
  proto ← named 4 m head.protos.size (u16_at bs (head.methods.off + 8 * m + 2))
  name ← named 4 m head.strings.size (u32_at bs (head.methods.off + 8 * m + 4))
  Ok (record { class = owner; proto = proto; name = name })

abbrev pub methods_at : List ℕ → Header → Result (List MethodId) DexFault
methods_at bs head = table_at bs 4 head.methods 8 (method_in bs head)

-- classes
abbrev pub interfaces_off : List ℕ → Header → ℕ → ℕ
interfaces_off bs head c = u32_at bs (head.classes.off + 32 * c + 12)

abbrev pub interfaces_total : List ℕ → Header → ℕ → ℕ
interfaces_total bs head c = params_total bs head head.protos.size + sum_below (λ d. list_size bs (interfaces_off bs head d)) c

-- a superclass, or none
abbrev pub parent_at : (row types n : ℕ) → Result (Option ℕ) DexFault
parent_at row types n =
    if n == no_parent then Ok None
    else do
      parent ← named 5 row types n
      Ok (Some parent)

unfoldable pub class_at : List ℕ → Header → (before c : ℕ) → Result ClassDef DexFault
class_at bs head before c = do
  itself ← named 5 c head.types.size (u32_at bs (head.classes.off + 32 * c))
  parent ← parent_at c head.types.size (u32_at bs (head.classes.off + 32 * c + 8))
  interfaces ← list_at bs 5 c head.types.size before (interfaces_off bs head c)
  Ok (record {
    class = itself;
    flags = u32_at bs (head.classes.off + 32 * c + 4);
    parent = parent;
    interfaces = interfaces;
    members = u32_at bs (head.classes.off + 32 * c + 24);
  })

abbrev pub class_in : List ℕ → Header → ℕ → Result ClassDef DexFault
class_in bs head c = class_at bs head (interfaces_total bs head c) c

abbrev pub classes_at : List ℕ → Header → Result (List ClassDef) DexFault
classes_at bs head = table_at bs 5 head.classes 32 (class_in bs head)

-- the entries of all type lists
abbrev pub list_entries : List ℕ → ℕ → List ℕ
list_entries bs off = list_below (list_entry bs off) (list_size bs off)

abbrev pub all_params : List ℕ → Header → ℕ → List ℕ
all_params bs head p = joined_below (λ q. list_entries bs (params_off bs head q)) p

abbrev pub all_interfaces : List ℕ → Header → ℕ → List ℕ
all_interfaces bs head c = joined_below (λ d. list_entries bs (interfaces_off bs head d)) c

-- the tables in their order
unfoldable pub tables_in : List ℕ → Header → Result IdTables DexFault
tables_in bs head = do
  strings ← strings_at bs head
  types ← types_at bs head
  protos ← protos_at bs head
  fields ← fields_at bs head
  methods ← methods_at bs head
  classes ← classes_at bs head
  Ok (record {
    strings = strings;
    types = types;
    protos = protos;
    fields = fields;
    methods = methods;
    classes = classes;
    lists = all_params bs head head.protos.size ++ all_interfaces bs head head.classes.size;
  })

-- the tables of a file whose header was read, or the first fault
abbrev pub tables_at : List ℕ → Result IdTables DexFault
tables_at bs = tables_in bs (header_of bs)
