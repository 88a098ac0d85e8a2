-- The numbers of an application. A type, a name or a prototype has the place at which the files first have it:
-- file by file, over the tables of types, of strings and of prototypes.
use Rattle.std.specs.Prelude.{ℕ, List, [], ◌∷◌, map, fold, position, unwrap_or, bytes_eq, slice_index, slice_index_or}
use Rattle.indexmap.specs.IndexSet.{insert_key}
use Rattle.dex_file.specs.Content.{ProtoContent, FileContent}

-- the place of a text, or of a prototype's numbers, in a list; 0 where the list lacks it
abbrev pub number_in : List (List ℕ) → List ℕ → ℕ
number_in seen text = unwrap_or (position (bytes_eq text) seen) 0

-- a list, and after it those of some more that were not there
abbrev pub with_new : List (List ℕ) → List (List ℕ) → List (List ℕ)
with_new seen more = fold (insert_key bytes_eq) seen more

-- the bytes of a string of a file; none past its strings
abbrev pub string_at : FileContent → ℕ → List ℕ
string_at file s = slice_index_or file.strings s []

-- the descriptors of a file's types
abbrev pub type_texts : FileContent → List (List ℕ)
type_texts file = map (string_at file) file.types

-- the types of all files, and their names, which are all strings
abbrev pub types_in : List FileContent → List (List ℕ)
types_in files = fold (λ seen file. with_new seen (type_texts file)) [] files

abbrev pub names_in : List FileContent → List (List ℕ)
names_in files = fold (λ seen file. with_new seen file.strings) [] files

-- the numbers of a file's types, row by row
abbrev pub type_numbers : List (List ℕ) → FileContent → List ℕ
type_numbers types file = map (number_in types) (type_texts file)

-- a prototype by the numbers of its types: the result, and then the parameters
abbrev pub proto_numbers : List ℕ → ProtoContent → List ℕ
proto_numbers types proto = slice_index types proto.result ∷ map (slice_index types) proto.params

-- the prototypes of a file, and those of all files
abbrev pub protos_of : List (List ℕ) → FileContent → List (List ℕ)
protos_of types file = map (proto_numbers (type_numbers types file)) file.protos

abbrev pub protos_in : List (List ℕ) → List FileContent → List (List ℕ)
protos_in types files = fold (λ seen file. with_new seen (protos_of types file)) [] files

-- all types, names and prototypes by number
pub record Seen : Type 0 where
  pub types : List (List ℕ)
  pub names : List (List ℕ)
  pub protos : List (List ℕ)

unfoldable pub seen_in : List FileContent → Seen
seen_in files = record { types = types_in files; names = names_in files; protos = protos_in (types_in files) files }

-- the application's number of each row of a file's tables of types, strings and prototypes
pub record Numbers : Type 0 where
  pub types : List ℕ
  pub names : List ℕ
  pub protos : List ℕ

abbrev pub numbers_of : Seen → FileContent → Numbers
numbers_of seen file = record {
  types = type_numbers seen.types file;
  names = map (number_in seen.names) file.strings;
  protos = map (number_in seen.protos) (protos_of seen.types file);
}
