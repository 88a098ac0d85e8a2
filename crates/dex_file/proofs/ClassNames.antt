-- The name of a class row by the tables is that of the content.
use Rattle.std.proofs.Common.{inl, inr, ◌≡◌, ◌<◌, ◌≤◌, ℕ, zero, suc, true, false, nat_lt, if◌then◌else◌, List, [], ◌∷◌, option_map, slice_get, slice_index_or, Option, Some, None, Result, Ok, refl, sym, ap, arith, ◌∙◌}
use Rattle.std.proofs.lemmas.Bool.{cases_lt}
use Rattle.std.proofs.lemmas.Bool.Decides.{nat_tests}
use Rattle.std.proofs.lemmas.List.{get_or_past}
use Rattle.dex_bytes.specs.Header.{header_at}
use Rattle.dex_bytes.proofs.Faults.{passing_header}
use Rattle.dex_tables.specs.declared.tables.ClassDef.{ClassDef}
use Rattle.dex_tables.specs.Content.{IdTables, AreTablesOf}
use Rattle.dex_tables.specs.Reading.{list_below, tables_at}
use Rattle.dex_tables.specs.Rows.{string_count, string_text}
use Rattle.dex_tables.proofs.TableLaws.{is_reading}
use Rattle.dex_tables.proofs.Whole.{length-list_below, list_below-get}
use Rattle.dex_code.specs.Content.{MemberLists}
use Rattle.dex_file.specs.declared.fault.FileFault.{FileFault}
use Rattle.dex_file.specs.declared.fault.FileFault.TheVariants.{Dex, Code, Memory}
use Rattle.dex_file.specs.Content.{ClassContent, FileContent, AreClassesOf, no_classes, class, string_in, type_text, class_text, string_by, type_by, row_text}
use Rattle.dex_file.specs.Exact.{in_dex, IsFault}
use Rattle.dex_file.specs.Reading.{content_of}
use Rattle.dex_file.proofs.ContentLaw.{content_read, header_some}

same_tables : (bs : List ℕ) (a b : IdTables) → AreTablesOf bs a → AreTablesOf bs b → a ≡ b
same_tables bs a b p q = let one = is_reading bs a p in let other = is_reading bs b q in cc

kind_at : (bs lists : List ℕ) (c : ℕ) (rows : List ClassDef) (members : List MemberLists) (contents : List ClassContent) (r : ℕ) → AreClassesOf bs lists c rows members contents
    → option_map (λ (row : ClassDef). row.class) (slice_get rows r) ≡ option_map (λ (k : ClassContent). k.kind) (slice_get contents r)
kind_at bs lists c [] [] [] r no_classes = refl
kind_at bs lists c [] [] (content ∷ contents) r are = elim are [ ]
kind_at bs lists c [] (own ∷ members) contents r are = elim are [ ]
kind_at bs lists c (row ∷ rows) [] contents r are = elim are [ ]
kind_at bs lists c (row ∷ rows) (own ∷ members) [] r are = elim are [ ]
kind_at bs lists c (row ∷ rows) (own ∷ members) (content ∷ contents) zero (class is more) = ap Some (sym (ap (λ (k : ClassContent). k.kind) is.fields))
kind_at bs lists c (row ∷ rows) (own ∷ members) (content ∷ contents) (suc r) (class is more) = kind_at bs lists (suc c) rows members contents r more

is_below : (s n : ℕ) → s < n → nat_lt s n ≡ true
is_below s n lt = grind (arith, nat_tests)

is_past : (s n : ℕ) → n ≤ s → nat_lt s n ≡ false
is_past s n le = grind (arith, nat_tests)

string_same : (f : ℕ → List ℕ) (n s : ℕ) → (if nat_lt s n then f s else []) ≡ slice_index_or (list_below f n) s []
string_same f n s =
    elim (cases_lt s n) [
      | inl lt ↦ rw (is_below s n lt) (sym (list_below-get f n s [] lt))
      | inr le ↦ rw (is_past s n le) (sym (get_or_past (list_below f n) s [] (omega (arith, le, length-list_below f n))))
    ]

string_at : (bs : List ℕ) (content : FileContent) (o : Option ℕ) → content.strings ≡ list_below (string_text bs) (string_count bs) → string_by bs o ≡ string_in content o
string_at bs content None is = refl
string_at bs content (Some s) is = rw is (string_same (string_text bs) (string_count bs) s)

type_at : (bs : List ℕ) (content : FileContent) (tables : IdTables) (o : Option ℕ) → content.types ≡ tables.types → content.strings ≡ list_below (string_text bs) (string_count bs) → type_by bs tables o ≡ type_text content o
type_at bs content tables None types strings = refl
type_at bs content tables (Some t) types strings = string_at bs content (slice_get tables.types t) strings ∙ ap (λ (ts : List ℕ). string_in content (slice_get ts t)) (sym types)

pub row_same : (bs : List ℕ) (content : FileContent) (tables : IdTables) (row : ℕ) → AreTablesOf bs tables → content_of bs ≡ Ok content → row_text bs tables row ≡ class_text content row
row_same bs content tables row are read =
    let is = content_read bs content read in
    let same = same_tables bs tables is.tables are is.stand in
    ap (λ (t : IdTables). row_text bs t row) same
    ∙ ap (type_by bs is.tables) (kind_at bs is.tables.lists 0 is.tables.classes is.members content.classes row is.classes)
    ∙ type_at bs content is.tables _ (ap (λ (f : FileContent). f.types) is.rest) (ap (λ (f : FileContent). f.strings) is.rest)

-- a file that can be read has no fault
fault_of : {T : Type 0} (fault : FileFault) (m : Result T FileFault) (x : T) → m ≡ Ok x → IsFault fault m → fault ≡ Memory
fault_of Memory m x ok is = refl
fault_of (Dex e) m x ok is = let no : ⊥ = cc in absurd no
fault_of (Code k e) m x ok is = let no : ⊥ = cc in absurd no

pub header_fault : (bs : List ℕ) (content : FileContent) (fault : FileFault) → content_of bs ≡ Ok content → IsFault fault (in_dex (header_at bs)) → fault ≡ Memory
header_fault bs content fault read is =
    let header = header_some (header_at bs) (passing_header bs (content_read bs content read).header) in
    fault_of fault (in_dex (header_at bs)) header.0 (ap in_dex header.1) is

pub tables_fault : (bs : List ℕ) (content : FileContent) (fault : FileFault) → content_of bs ≡ Ok content → IsFault fault (in_dex (tables_at bs)) → fault ≡ Memory
tables_fault bs content fault read is =
    let there = content_read bs content read in
    fault_of fault (in_dex (tables_at bs)) there.tables (ap in_dex (is_reading bs there.tables there.stand)) is
