-- The order in which a DEX file is read, with the first fault: the header, the tables, and then class row by
-- class row its members and the code of its methods, direct ones first. The graph of a method is built as
-- soon as its code was read.
-- Sums over the file: the members of a class are added once all of them were read. The units of a code item,
-- and then its handlers, are added once it was read, before its graph is built.
use Rattle.std.specs.Prelude.{ℕ, ◌+◌, ◌≡◌, ◌==◌, List, [], ◌∷◌, ◌++◌, length, nat_lt, if◌then◌else◌, Option, Some, None, Result, Ok, Err}
use Rattle.ns_base.specs.Answers.{limit_of}
use Rattle.ns_base.specs.declared.answers.Counted.{Counted}
use Rattle.ns_base.specs.declared.answers.Counted.TheVariants.{Members, Units, Handlers}
use Rattle.dex_bytes.specs.declared.fault.DexFault.TheVariants.{Limit}
use Rattle.dex_bytes.specs.Header.{header_at}
use Rattle.dex_tables.specs.declared.tables.ClassDef.{ClassDef}
use Rattle.dex_tables.specs.Content.{IdTables}
use Rattle.dex_tables.specs.Reading.{tables_at}
use Rattle.dex_code.specs.declared.members.Member.{Member}
use Rattle.dex_code.specs.Content.{MemberLists, CodeContent}
use Rattle.dex_code.specs.Reading.{members_at, code_at}
use Rattle.method_graph.specs.Graph.{graph_of}
use Rattle.dex_file.specs.declared.fault.FileFault.{FileFault}
use Rattle.dex_file.specs.declared.fault.FileFault.TheVariants.{Dex}
use Rattle.dex_file.specs.declared.parts.FileCode.{FileCode}
use Rattle.dex_file.specs.declared.parts.FileMethod.{FileMethod}
use Rattle.dex_file.specs.declared.sums.Sums.{Sums}
use Rattle.dex_file.specs.Content.{ClassContent, FileContent, method_of, class_of, file_of, member_count}
use Rattle.dex_file.specs.Exact.{◌>>=◌, reached, in_dex, in_code}

-- so many more of what is counted, where so many came before
abbrev pub added : Counted → (before more : ℕ) → Result ℕ FileFault
added which before more = if nat_lt (limit_of which) (before + more) then Err (Dex (Limit which)) else Ok (before + more)

abbrev pub no_sums : Sums
no_sums = record { members = 0; units = 0; handlers = 0 }

-- with the members of a class
unfoldable pub with_members : Sums → MemberLists → Result Sums FileFault
with_members sums members = do
  count ← added Members sums.members (member_count members)
  Ok (record { members = count; units = sums.units; handlers = sums.handlers })

-- with a code item
unfoldable pub with_code : Sums → CodeContent → Result Sums FileFault
with_code sums item = do
  units ← added Units sums.units (length item.units)
  handlers ← added Handlers sums.handlers (length item.handlers)
  Ok (record { members = sums.members; units = units; handlers = handlers })

-- the methods of a list so far, and the sums with them
pub record ReadMethods : Type 0 where
  pub sums : Sums
  pub methods : List FileMethod

-- with one more, which has this code
abbrev pub with_row : ReadMethods → Member → Sums → Option FileCode → ReadMethods
with_row x member sums own = record {
  sums = sums;
  methods = x.methods ++ method_of member own ∷ [];
}

-- with one more method, whose code stands at its offset, if it has one
unfoldable pub with_method : List ℕ → ReadMethods → Member → Result ReadMethods FileFault
with_method bs x member =
    if member.code == 0 then Ok (with_row x member x.sums None)
    else do
      item ← in_dex (code_at bs member.code)
      sums ← with_code x.sums item
      body ← in_code member.id (graph_of bs member.id member.flags item)
      Ok (with_row x member sums (Some (record { ins = item.ins; body = body })))

-- a list of methods
abbrev pub methods_at : List ℕ → Sums → List Member → Result ReadMethods FileFault
methods_at bs sums members = reached (with_method bs) (record { sums = sums; methods = [] }) members

-- the classes so far, and the sums with them
pub record ReadClasses : Type 0 where
  pub sums : Sums
  pub classes : List ClassContent

-- with one more class row. Its number is that of the classes before it.
unfoldable pub with_class : List ℕ → (lists : List ℕ) → ReadClasses → ClassDef → Result ReadClasses FileFault
with_class bs lists x row = do
  members ← in_dex (members_at bs (length x.classes))
  sums ← with_members x.sums members
  directs ← methods_at bs sums members.directs
  virtuals ← methods_at bs directs.sums members.virtuals
  Ok (record {
    sums = virtuals.sums;
    classes = x.classes ++ class_of lists row members directs.methods virtuals.methods ∷ [];
  })

-- all class rows
abbrev pub classes_at : List ℕ → IdTables → Result ReadClasses FileFault
classes_at bs tables = reached (with_class bs tables.lists) (record { sums = no_sums; classes = [] }) tables.classes

-- the content of a file, or its first fault
unfoldable pub content_of : List ℕ → Result FileContent FileFault
content_of bs = do
  header ← in_dex (header_at bs)
  tables ← in_dex (tables_at bs)
  read ← classes_at bs tables
  Ok (file_of bs tables read.classes read.sums.units)

-- some file has this content
abbrev pub IsContent : FileContent → Type 0
IsContent content = (bs : List ℕ) × (content_of bs ≡ Ok content)
