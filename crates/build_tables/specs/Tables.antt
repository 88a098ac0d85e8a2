-- The id tables of a file that is built. A name is seen in a table: it has the number of its row, which goes
-- last where it is new. So rows are numbered by first sight.
use Rattle.std.specs.Prelude.{ℕ, ◌≡◌, Bool, true, false, ◌&&◌, ◌||◌, ◌==◌, nat_le, List, [], ◌∷◌, ◌++◌, length, take, bytes_eq, Result, Ok, Err}
use Rattle.std.specs.List.{position_or_len}
use Rattle.indexmap.specs.IndexSet.{insert_key}
use Rattle.build_tables.specs.declared.fault.BuildFault.{BuildFault}
use Rattle.build_tables.specs.declared.fault.BuildFault.TheVariants.{TooMany, Memory}
use Rattle.build_tables.specs.declared.tables.Mark.{Mark}
use Rattle.build_tables.specs.Spelling.{mutf8_of, shorty_of}

-- the MUTF-8 bytes of the strings, and of each other row its numbers: of a type its string; of a prototype
-- the string of its shorty, its result and its parameters; of a field its class, its type and its name; of a
-- method its class, its prototype and its name
pub record IdRows : Type 0 where
  pub strings : List (List ℕ)
  pub types : List (List ℕ)
  pub protos : List (List ℕ)
  pub fields : List (List ℕ)
  pub methods : List (List ℕ)

abbrev pub no_rows : IdRows
no_rows = record { strings = []; types = []; protos = []; fields = []; methods = [] }

-- a row's number: its place, or the next one
abbrev pub place_in : List (List ℕ) → List ℕ → ℕ
place_in rows row = position_or_len (bytes_eq row) rows

-- what was seen, and the tables after it
pub record Seen (T : Type 0) : Type 0 where
  pub found : T
  pub rows : IdRows

-- what is seen after something else
infixl 10 ◌>>=◌
abbrev pub ◌>>=◌ : {A B : Type 0} → Seen A → (A → IdRows → Seen B) → Seen B
seen >>= next = next seen.found seen.rows

abbrev pub string_seen : List ℕ → IdRows → Seen ℕ
string_seen text rows = record {
  found = place_in rows.strings (mutf8_of text);
  rows = record { strings = insert_key bytes_eq rows.strings (mutf8_of text); types = rows.types; protos = rows.protos; fields = rows.fields; methods = rows.methods };
}

abbrev pub type_row_seen : List ℕ → IdRows → Seen ℕ
type_row_seen row rows = record {
  found = place_in rows.types row;
  rows = record { strings = rows.strings; types = insert_key bytes_eq rows.types row; protos = rows.protos; fields = rows.fields; methods = rows.methods };
}

abbrev pub proto_row_seen : List ℕ → IdRows → Seen ℕ
proto_row_seen row rows = record {
  found = place_in rows.protos row;
  rows = record { strings = rows.strings; types = rows.types; protos = insert_key bytes_eq rows.protos row; fields = rows.fields; methods = rows.methods };
}

abbrev pub field_row_seen : List ℕ → IdRows → Seen ℕ
field_row_seen row rows = record {
  found = place_in rows.fields row;
  rows = record { strings = rows.strings; types = rows.types; protos = rows.protos; fields = insert_key bytes_eq rows.fields row; methods = rows.methods };
}

abbrev pub method_row_seen : List ℕ → IdRows → Seen ℕ
method_row_seen row rows = record {
  found = place_in rows.methods row;
  rows = record { strings = rows.strings; types = rows.types; protos = rows.protos; fields = rows.fields; methods = insert_key bytes_eq rows.methods row };
}

-- a type: its text, and then the type
unfoldable pub type_seen : List ℕ → IdRows → Seen ℕ
type_seen name rows = string_seen name rows >>= (λ string. type_row_seen (string ∷ []))

abbrev pub types_seen : List (List ℕ) → IdRows → Seen (List ℕ)
types_seen [] rows = record { found = []; rows = rows }
types_seen (name ∷ names) rows =
    type_seen name rows >>= (λ first rows. types_seen names rows >>= (λ others rows. record { found = first ∷ others; rows = rows }))

-- a prototype: its result, its parameters, its shorty, and then the prototype
unfoldable pub proto_seen : List ℕ → List (List ℕ) → IdRows → Seen ℕ
proto_seen gives params rows =
    type_seen gives rows >>= (λ result rows.
    types_seen params rows >>= (λ kinds rows.
    string_seen (shorty_of gives params) rows >>= (λ shorty.
    proto_row_seen (shorty ∷ result ∷ kinds))))

-- a field of a class: its type, its name, and then the field
unfoldable pub field_of_seen : ℕ → (kind name : List ℕ) → IdRows → Seen ℕ
field_of_seen class kind name rows =
    type_seen kind rows >>= (λ kind rows.
    string_seen name rows >>= (λ name.
    field_row_seen (class ∷ kind ∷ name ∷ [])))

-- a method of a class: its prototype, its name, and then the method
unfoldable pub method_of_seen : ℕ → (name gives : List ℕ) → List (List ℕ) → IdRows → Seen ℕ
method_of_seen class name gives params rows =
    proto_seen gives params rows >>= (λ proto rows.
    string_seen name rows >>= (λ name.
    method_row_seen (class ∷ proto ∷ name ∷ [])))

-- a field or a method: its class first
unfoldable pub field_seen : (class kind name : List ℕ) → IdRows → Seen ℕ
field_seen class kind name rows = type_seen class rows >>= (λ class. field_of_seen class kind name)

unfoldable pub method_seen : (class name gives : List ℕ) → List (List ℕ) → IdRows → Seen ℕ
method_seen class name gives params rows = type_seen class rows >>= (λ class. method_of_seen class name gives params)

-- a table that had so many rows and now has so many
abbrev pub has_table_room : ℕ → ℕ → Bool
has_table_room before now = nat_le now 65535 || (now == before)

-- no table that got rows has more than 65,535
abbrev pub has_room : Mark → IdRows → Bool
has_room mark now =
    has_table_room mark.strings (length now.strings) && has_table_room mark.types (length now.types)
    && has_table_room mark.protos (length now.protos) && has_table_room mark.fields (length now.fields)
    && has_table_room mark.methods (length now.methods)

-- how many rows each table has
abbrev pub mark_of : IdRows → Mark
mark_of rows = record {
  strings = length rows.strings;
  types = length rows.types;
  protos = length rows.protos;
  fields = length rows.fields;
  methods = length rows.methods;
}

-- the rows that were there at a mark
abbrev pub cut_at : Mark → IdRows → IdRows
cut_at mark rows = record {
  strings = take mark.strings rows.strings;
  types = take mark.types rows.types;
  protos = take mark.protos rows.protos;
  fields = take mark.fields rows.fields;
  methods = take mark.methods rows.methods;
}

-- rows were only added
pub record HasGrown (old new : IdRows) : Type 0 where
  pub strings : take (length old.strings) new.strings ≡ old.strings
  pub types : take (length old.types) new.types ≡ old.types
  pub protos : take (length old.protos) new.protos ≡ old.protos
  pub fields : take (length old.fields) new.fields ≡ old.fields
  pub methods : take (length old.methods) new.methods ≡ old.methods

-- the answer of a call that sees this in the old tables: its number, or that it is too many, and then the
-- tables are as before
abbrev pub IsRef : IdRows → Seen ℕ → IdRows → Result ℕ BuildFault → Type 0
IsRef old seen new (Ok n) = (has_room (mark_of old) seen.rows ≡ true) × (n ≡ seen.found) × (new ≡ seen.rows)
IsRef old seen new (Err TooMany) = (has_room (mark_of old) seen.rows ≡ false) × (new ≡ old)
IsRef old seen new (Err Memory) = new ≡ old
IsRef old seen new (Err fault) = ⊥

-- the same, where the call answered this and left these rows, and the old rows are those at the mark
abbrev pub IsSettled : {E : Type 0} → Mark → (old new : IdRows) → Result ℕ E → Result ℕ BuildFault → Type 0
IsSettled mark old new (Ok number) (Ok n) = (has_room mark old ≡ true) × (n ≡ number) × (new ≡ old)
IsSettled mark old new (Ok number) (Err TooMany) = (has_room mark old ≡ false) × (new ≡ cut_at mark old)
IsSettled mark old new (Ok number) (Err fault) = ⊥
IsSettled mark old new (Err e) (Err Memory) = new ≡ cut_at mark old
IsSettled mark old new (Err e) result = ⊥

-- the numbers of what was seen stand behind some others
abbrev pub AreSeen : (old new : List ℕ) → IdRows → Seen (List ℕ) → Type 0
AreSeen old new rows seen = (new ≡ old ++ seen.found) × (rows ≡ seen.rows)
