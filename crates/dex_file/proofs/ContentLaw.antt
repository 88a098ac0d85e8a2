-- The content of a file as it is read and as it stands in the file are the same.
use Rattle.std.proofs.Common.{◌≡◌, ℕ, ◌+◌, ◌≤◌, List, [], Result, Ok, Err, IsOk, refl, sym, ap, arith, ◌∙◌}
use Rattle.std.specs.List.{sum_by}
use Rattle.dex_bytes.specs.declared.fault.DexFault.{DexFault}
use Rattle.dex_bytes.specs.declared.layout.Header.{Header}
use Rattle.dex_bytes.specs.Header.{header_at, IsHeader}
use Rattle.dex_bytes.proofs.Faults.{header_read, passing_header}
use Rattle.dex_tables.specs.Content.{IdTables, AreTablesOf}
use Rattle.dex_tables.specs.Reading.{tables_at}
use Rattle.dex_tables.proofs.TableLaws.{reading_is, is_reading}
use Rattle.dex_file.specs.declared.fault.FileFault.{FileFault}
use Rattle.dex_file.specs.Content.{ClassContent, FileContent, file_of, unit_count, over_methods, IsContentOf}
use Rattle.dex_file.specs.Exact.{◌>>=◌, in_dex}
use Rattle.dex_file.specs.Reading.{no_sums, classes_at, ReadClasses, content_of}
use Rattle.dex_file.proofs.Chains.{bind_ok, ok_same, in_dex_ok}
use Rattle.dex_file.proofs.ClassLaw.{AreClassesRead, classes_read, all_grown, classes_by}
use Rattle.dex_file.proofs.Fronts.{front_whole}

same_file : (bs : List ℕ) (tables : IdTables) (classes own : List ClassContent) (units total : ℕ) → classes ≡ own → units ≡ total → file_of bs tables classes units ≡ file_of bs tables own total
same_file bs tables classes own units total e f = rw (e, f) refl

from_none : (s n : ℕ) → s ≡ 0 + n → s ≡ n
from_none s n e = omega arith

within : (s n limit : ℕ) → s ≡ 0 + n → (0 ≤ limit → s ≤ limit) → n ≤ limit
within s n limit e low = let all = low (omega arith) in omega arith

made : (bs : List ℕ) (content : FileContent) (tables : IdTables) (read : ReadClasses) → IsHeader bs → AreTablesOf bs tables → AreClassesRead bs tables.lists (record { sums = no_sums; classes = [] }) tables.classes read → file_of bs tables read.classes read.sums.units ≡ content → IsContentOf bs content
made bs content tables read header stand all is =
    rw (← is) (record {
      header = header;
      tables = tables;
      stand = stand;
      members = all.members;
      classes = rw all.classes all.are;
      rest = same_file bs tables read.classes read.classes read.sums.units _ refl (from_none _ _ all.sums.units);
      member_limit = within _ _ _ all.sums.members all.sums.member_limit;
      unit_limit = within _ _ _ all.sums.units all.sums.unit_limit;
      handler_limit = within _ _ _ all.sums.handlers all.sums.handler_limit;
    })

-- what follows each part of a file
after_classes : List ℕ → IdTables → ReadClasses → Result FileContent FileFault
after_classes bs tables read = Ok (file_of bs tables read.classes read.sums.units)

after_tables : List ℕ → IdTables → Result FileContent FileFault
after_tables bs tables = classes_at bs tables >>= after_classes bs tables

after_header : List ℕ → Header → Result FileContent FileFault
after_header bs header = in_dex (tables_at bs) >>= after_tables bs

pub content_read : (bs : List ℕ) (content : FileContent) → content_of bs ≡ Ok content → IsContentOf bs content
unfolding content_of after_header after_tables after_classes
content_read bs content h =
    let header = bind_ok (in_dex (header_at bs)) (after_header bs) content h in
    let tables = bind_ok (in_dex (tables_at bs)) (after_tables bs) content header.2 in
    let read = bind_ok (classes_at bs tables.0) (after_classes bs tables.0) content tables.2 in
    let front = in_dex_ok (header_at bs) header.0 header.1 in
    made bs content tables.0 read.0 (header_read bs (rw front refl)) (reading_is bs tables.0 (front_whole bs header.0 front) (in_dex_ok (tables_at bs) tables.0 tables.1))
    (classes_read bs tables.0.lists tables.0.classes (record { sums = no_sums; classes = [] }) read.0 read.1) (ok_same (file_of bs tables.0 read.0.classes read.0.sums.units) content read.2)

pub header_some : (r : Result Header DexFault) → IsOk r → (x : Header) × (r ≡ Ok x)
header_some (Ok x) h = (x, refl)
header_some (Err e) h = absurd (let no : ⊥ = cc in no)

pub content_reads : (bs : List ℕ) (content : FileContent) → IsContentOf bs content → content_of bs ≡ Ok content
unfolding content_of all_grown
content_reads bs content is =
    let header = header_some (header_at bs) (passing_header bs is.header) in
    let tables = is_reading bs is.tables is.stand in
    let m = is.member_limit in
    let u = is.unit_limit in
    let h = is.handler_limit in
    let classes = classes_by bs is.tables.lists is.tables.classes is.members content.classes (record { sums = no_sums; classes = [] }) is.classes (omega arith) (omega arith) (omega arith) in
    rw (header.1, tables, classes)
    (ap Ok (same_file bs is.tables content.classes content.classes _ _ refl (let none : 0 + sum_by (over_methods (unit_count bs)) is.members ≡ sum_by (over_methods (unit_count bs)) is.members = omega arith in none) ∙ sym is.rest))
