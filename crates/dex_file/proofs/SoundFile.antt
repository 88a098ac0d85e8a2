-- Every content that stands in a file is sound.
use Rattle.std.proofs.Common.{◌≡◌, ◌≢◌, ℕ, suc, ◌+◌, ◌<◌, ◌≤◌, inl, inr, List, [], ◌∷◌, length, map, get_or, sum_by, All, Option, Some, None, sym, ap, subst, arith, ◌∙◌}
use Rattle.std.proofs.lemmas.Bool.{cases_eq, eq-eqb, ne_eqb}
use Rattle.std.proofs.lemmas.List.Elements.{All-nil, All-cons, All-map}
use Rattle.std.proofs.lemmas.List.Sums.{sum_by-cons}
use Rattle.dex_tables.specs.declared.tables.ClassDef.{ClassDef}
use Rattle.dex_tables.specs.Content.{AreRows, AreLists, class_def, interfaces_before, parent_or_none}
use Rattle.dex_tables.specs.Reading.{list_entries}
use Rattle.dex_tables.specs.Rows.{type_count, field_count, method_count, class_count, class_type, class_parent, no_parent, class_interfaces, class_data}
use Rattle.dex_code.specs.declared.members.Member.{Member}
use Rattle.dex_code.specs.ClassData.{EntryList, entry_of, row_count, statics_of, instances_of, directs_of, virtuals_of}
use Rattle.dex_code.specs.Content.{MemberLists, AreEntries, AreMembersOf, no_members}
use Rattle.dex_file.specs.declared.parts.FileField.{FileField}
use Rattle.dex_file.specs.Content.{ClassContent, FileContent, list_in, field_of, IsClassOf, AreClassesOf, no_classes, class, unit_count, over_methods, IsContentOf}
use Rattle.dex_file.specs.Reading.{IsContent}
use Rattle.dex_file.specs.Sound.{IsType, IsSoundClass, instructions_in, IsSoundFile}
use Rattle.dex_file.proofs.ContentLaw.{content_read}
use Rattle.dex_file.proofs.SoundTables.{AreRowsOf, rows_of_file, all_rows, part_is, is_type, types_listed, sound_types, sound_protos, sound_fields, sound_methods}
use Rattle.dex_file.proofs.SoundCode.{sound_members, few_instructions}

-- the ids of members are rows of their tables
abbrev IsRow : ℕ → Member → Type 0
IsRow n member = member.id < n

record AreIdsThere (bs : List ℕ) (members : MemberLists) : Type 0 where
  pub statics : All (IsRow (field_count bs)) members.statics
  pub instances : All (IsRow (field_count bs)) members.instances
  pub directs : All (IsRow (method_count bs)) members.directs
  pub virtuals : All (IsRow (method_count bs)) members.virtuals

entries_there : (bs : List ℕ) (c p : ℕ) (l : EntryList) (entries : List Member) → AreEntries bs c p l entries → All (IsRow (row_count bs l.kind)) entries
entries_there bs c p l entries are = all_rows (IsRow (row_count bs l.kind)) entries l.count (entry_of bs p l) are.rows (λ i low. (are.sound i low).within)

none_there : (bs : List ℕ) → AreIdsThere bs no_members
none_there bs = record {
  statics = All-nil (IsRow (field_count bs));
  instances = All-nil (IsRow (field_count bs));
  directs = All-nil (IsRow (method_count bs));
  virtuals = All-nil (IsRow (method_count bs));
}

members_there : (bs : List ℕ) (c : ℕ) (members : MemberLists) → AreMembersOf bs c members → AreIdsThere bs members
members_there bs c members are =
    elim (cases_eq (class_data bs c) 0) [
      | inl none ↦ subst (AreIdsThere bs) (sym (are.absent none)) (none_there bs)
      | inr some ↦
          let p = class_data bs c in
          let at = are.present some in
          record {
            statics = entries_there bs c p (statics_of bs p) members.statics at.statics;
            instances = entries_there bs c p (instances_of bs p) members.instances at.instances;
            directs = entries_there bs c p (directs_of bs p) members.directs at.directs;
            virtuals = entries_there bs c p (virtuals_of bs p) members.virtuals at.virtuals;
          }
    ]

abbrev IsFieldOf : FileContent → FileField → Type 0
IsFieldOf file field = field.id < length file.fields

fields_there : (bs : List ℕ) (file : FileContent) → AreRowsOf bs file → (members : List Member) → All (IsRow (field_count bs)) members
    → All (IsFieldOf file) (map field_of members)
fields_there bs file are members low =
    All-map (IsFieldOf file) field_of members (λ k d lt. omega (arith, low k d lt, are.fields.count))

abbrev no_type : Option ℕ
no_type = None

-- a superclass is a type
parent_there : (n types t : ℕ) → (n ≢ no_parent → n < types) → parent_or_none n ≡ Some t → t < types
parent_there n types t sound h =
    elim (cases_eq n no_parent) [
      | inl none ↦
          let is : no_type ≡ Some t = rw (eq-eqb n no_parent none) at h in
          absurd (let no : ⊥ = cc in no)
      | inr some ↦
          let is : ◌≡◌ {A = Option ℕ} (Some n) (Some t) = rw (ne_eqb n no_parent some) at h in
          let same : n ≡ t = cc in
          subst (λ (m : ℕ). m < types) same (sound some)
    ]

-- a class row
sound_class : (bs lists : List ℕ) (file : FileContent) → AreRowsOf bs file → AreLists bs lists → (c : ℕ) (row : ClassDef) (members : MemberLists) (content : ClassContent)
    → c < class_count bs → row ≡ class_def bs c → IsClassOf bs lists c row members content → IsSoundClass file content
sound_class bs lists file has are c row members content low same is =
    let sound = has.sound.classes c low in
    let there = members_there bs c members is.stand in
    let kind : content.kind ≡ class_type bs c = ap (λ (k : ClassContent). k.kind) is.fields ∙ ap (λ (r : ClassDef). r.class) same in
    let parent : content.parent ≡ parent_or_none (class_parent bs c) = ap (λ (k : ClassContent). k.parent) is.fields ∙ ap (λ (r : ClassDef). r.parent) same in
    let interfaces : content.interfaces ≡ list_entries bs (class_interfaces bs c) =
    ap (λ (k : ClassContent). k.interfaces) is.fields ∙ ap (λ (r : ClassDef). list_in lists r.interfaces) same
    ∙ part_is bs lists (interfaces_before bs c) (class_interfaces bs c) (are.interfaces_end c low) (λ k d lt. are.interfaces c k d low lt) in
    record {
      kind = subst (IsType file) (sym kind) (is_type bs file has (class_type bs c) sound.itself);
      parent = λ t some. is_type bs file has t (parent_there (class_parent bs c) (type_count bs) t sound.parent (sym parent ∙ some));
      interfaces = subst (All (IsType file)) (sym interfaces) (types_listed bs file has (class_interfaces bs c) sound.interfaces);
      statics = subst (All (IsFieldOf file)) (sym (ap (λ (k : ClassContent). k.statics) is.fields)) (fields_there bs file has members.statics there.statics);
      instances = subst (All (IsFieldOf file)) (sym (ap (λ (k : ClassContent). k.instances) is.fields)) (fields_there bs file has members.instances there.instances);
      directs = sound_members bs file has members.directs content.directs is.directs there.directs;
      virtuals = sound_members bs file has members.virtuals content.virtuals is.virtuals there.virtuals;
    }

-- class rows from row c on
record AreFrom (bs : List ℕ) (c : ℕ) (rows : List ClassDef) : Type 0 where
  pub within : c + length rows ≤ class_count bs
  pub each : (k : ℕ) (d : ClassDef) → k < length rows → get_or rows k d ≡ class_def bs (c + k)

rest_from : (bs : List ℕ) (c : ℕ) (row : ClassDef) (rows : List ClassDef) → AreFrom bs c (row ∷ rows) → AreFrom bs (suc c) rows
rest_from bs c row rows are = record {
  within = omega (arith, are.within);
  each = λ k d low. are.each (suc k) d (omega (arith, low)) ∙ (let place : c + suc k ≡ suc c + k = omega arith in ap (class_def bs) place);
}

first_from : (bs : List ℕ) (c : ℕ) (row : ClassDef) (rows : List ClassDef) → AreFrom bs c (row ∷ rows) → row ≡ class_def bs c
first_from bs c row rows are = are.each 0 row (omega arith) ∙ (let place : c + 0 ≡ c = omega arith in ap (class_def bs) place)

all_from : (bs : List ℕ) (rows : List ClassDef) → AreRows rows (class_count bs) (class_def bs) → AreFrom bs 0 rows
all_from bs rows are = record {
  within = omega (arith, are.count);
  each = λ k d low. are.each k d (omega (arith, low, are.count)) ∙ (let place : k ≡ 0 + k = omega arith in ap (class_def bs) place);
}

sound_classes : (bs lists : List ℕ) (file : FileContent) → AreRowsOf bs file → AreLists bs lists → (c : ℕ) (rows : List ClassDef) (members : List MemberLists) (contents : List ClassContent)
    → AreFrom bs c rows → AreClassesOf bs lists c rows members contents → All (IsSoundClass file) contents
sound_classes bs lists file has are c [] [] [] from no_classes = All-nil (IsSoundClass file)
sound_classes bs lists file has are c [] [] (content ∷ contents) from all = elim all [ ]
sound_classes bs lists file has are c [] (own ∷ members) contents from all = elim all [ ]
sound_classes bs lists file has are c (row ∷ rows) [] contents from all = elim all [ ]
sound_classes bs lists file has are c (row ∷ rows) (own ∷ members) [] from all = elim all [ ]
sound_classes bs lists file has are c (row ∷ rows) (own ∷ members) (content ∷ contents) from (class is more) =
    All-cons (IsSoundClass file) content contents
    (sound_class bs lists file has are c row own content (omega (arith, from.within)) (first_from bs c row rows from) is)
    (sound_classes bs lists file has are (suc c) rows members contents (rest_from bs c row rows from) more)

few_in_class : (bs lists : List ℕ) (file : FileContent) → AreRowsOf bs file → (c : ℕ) (row : ClassDef) (members : MemberLists) (content : ClassContent)
    → IsClassOf bs lists c row members content → instructions_in content ≤ over_methods (unit_count bs) members
few_in_class bs lists file has c row members content is =
    let directs = few_instructions bs file has members.directs content.directs is.directs in
    let virtuals = few_instructions bs file has members.virtuals content.virtuals is.virtuals in
    omega (arith, directs, virtuals)

few_in_all : (bs lists : List ℕ) (file : FileContent) → AreRowsOf bs file → (c : ℕ) (rows : List ClassDef) (members : List MemberLists) (contents : List ClassContent)
    → AreClassesOf bs lists c rows members contents → sum_by instructions_in contents ≤ sum_by (over_methods (unit_count bs)) members
few_in_all bs lists file has c [] [] [] no_classes = omega arith
few_in_all bs lists file has c [] [] (content ∷ contents) are = elim are [ ]
few_in_all bs lists file has c [] (own ∷ members) contents are = elim are [ ]
few_in_all bs lists file has c (row ∷ rows) [] contents are = elim are [ ]
few_in_all bs lists file has c (row ∷ rows) (own ∷ members) [] are = elim are [ ]
few_in_all bs lists file has c (row ∷ rows) (own ∷ members) (content ∷ contents) (class is more) =
    let first = few_in_class bs lists file has c row own content is in
    let rest = few_in_all bs lists file has (suc c) rows members contents more in
    omega (arith, sum_by-cons instructions_in content contents, sum_by-cons (over_methods (unit_count bs)) own members, first, rest)

-- what stands in a file is sound
pub file_sound : (bs : List ℕ) (content : FileContent) → IsContentOf bs content → IsSoundFile content
file_sound bs content is =
    let rows = rows_of_file bs content is in
    let tables = is.tables in
    let units : content.units ≡ sum_by (over_methods (unit_count bs)) is.members = ap (λ (f : FileContent). f.units) is.rest in
    let few = few_in_all bs tables.lists content rows 0 tables.classes is.members content.classes is.classes in
    record {
      types = sound_types bs content rows;
      protos = sound_protos bs content rows;
      fields = sound_fields bs content rows;
      methods = sound_methods bs content rows;
      classes = sound_classes bs tables.lists content rows is.stand.lists 0 tables.classes is.members content.classes (all_from bs tables.classes is.stand.classes) is.classes;
      units = omega (arith, units, few);
    }

pub content_sound : (content : FileContent) → IsContent content → IsSoundFile content
content_sound content is = file_sound is.0 content (content_read is.0 content is.1)
