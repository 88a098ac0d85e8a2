-- Each number of an application is a row of its table.
use Rattle.std.proofs.Common.{◌≡◌, ◌<◌, ◌+◌, ℕ, zero, suc, List, [], ◌∷◌, ◌++◌, length, map, fold, get_or, unwrap_or, bytes_eq, All, Option, Some, None, option_map, slice_get, slice_index, cond, ltb, refl, ap, subst, ◌∙◌, arith}
use Rattle.std.proofs.lemmas.Bool.Decides.{nat_tests}
use Rattle.std.proofs.lemmas.List.{length-map, length-append}
use Rattle.std.proofs.lemmas.List.Elements.{All-nil, All-push, All-map, All-weaker}
use Rattle.std.proofs.lemmas.Option.{slice_get_within, get_or_from_slice_get}
use Rattle.std.specs.List.{position_or_len}
use Rattle.indexmap.specs.IndexSet.{insert_key}
use Rattle.ns_base.specs.declared.rows.TypeNo.{TypeNo}
use Rattle.dex_tables.specs.declared.tables.FieldId.{FieldId}
use Rattle.dex_tables.specs.declared.tables.MethodId.{MethodId}
use Rattle.dalvik.specs.declared.ins.Ins.{Ins}
use Rattle.dalvik.specs.declared.ins.Ins.TheVariants as ins
use Rattle.dalvik.specs.declared.body.Place.{Place}
use Rattle.app_model.specs.declared.rows.FieldRow.{FieldRow}
use Rattle.app_model.specs.declared.rows.MethodRow.{MethodRow}
use Rattle.app_model.specs.declared.rows.Named.{Named}
use Rattle.app_model.specs.declared.rows.NamedField.{NamedField}
use Rattle.dalvik.specs.Body.{BodyRows}
use Rattle.dalvik.specs.declared.naming.Naming.{Naming}
use Rattle.dalvik.specs.declared.naming.Naming.TheVariants as naming
use Rattle.dalvik.specs.Naming.{naming_of}
use Rattle.app_model.specs.Parts.{AppParts}
use Rattle.app_model.specs.Sound.{IsType, IsName, IsProto, IsProtoRow, IsClassRow, IsMethodRow, IsFieldRow, IsOperand, AreInRange}
use Rattle.app_model.specs.Words.{no_body, places_of, place_at, ins_at, ins_of}
use Rattle.dex_file.specs.declared.parts.FileCode.{FileCode}
use Rattle.dex_file.specs.declared.parts.FileField.{FileField}
use Rattle.dex_file.specs.declared.parts.FileMethod.{FileMethod}
use Rattle.dex_file.specs.Content.{ProtoContent, ClassContent, FileContent}
use Rattle.dex_file.specs.Sound.{IsThere, IsSoundProto, IsSoundField, IsSoundMethod, IsSoundIns, IsSoundCode, IsSoundMember, IsSoundClass, IsSoundFile}
use Rattle.app_rows.specs.Numbers.{Seen, seen_in, number_in, with_new, string_at, type_texts, type_numbers, types_in, protos_of, proto_numbers, numbers_of}
use Rattle.app_rows.specs.Linked.{Rows, Members, no_members, with_field, with_fields, with_method, with_methods, with_name, with_class, with_file, members_in, rows_of, app_of, linked, linked_ins, linked_place, linked_body, operand_of, operands_of, proto_row, type_no, type_at, method_at, field_at, named, named_field, class_row, field_row, method_row}
use Rattle.app_rows.proofs.Once.{kept_fold, put, files_each}

-- what holds of each item and of the default holds of whatever is read
read_either : {A : Type 0} (P : A → Type 0) (xs : List A) (d : A) (i : ℕ) → All P xs → P d → P (get_or xs i d)
read_either P [] d i each h = h
read_either P (x ∷ xs) d zero each h = each 0 d (omega arith)
read_either P (x ∷ xs) d (suc i) each h = read_either P xs d i (λ k e lt. each (suc k) e (omega arith)) h

-- a list that has a row numbers each text by one of its rows: a text that it lacks is 0
number_below : (seen : List (List ℕ)) (text : List ℕ) → 0 < length seen → number_in seen text < length seen
number_below seen text some = by (position_or_len (bytes_eq text) seen)
  where
    by : (n : ℕ) → unwrap_or (cond (ltb n (length seen)) (Some n) None) 0 < length seen
    by n = grind (arith, nat_tests)

numbers_below : (seen texts : List (List ℕ)) (i : ℕ) → 0 < length seen → slice_index (map (number_in seen) texts) i < length seen
numbers_below seen texts i some =
    read_either (λ n. n < length seen) (map (number_in seen) texts) 0 i
    (All-map (λ n. n < length seen) (number_in seen) texts (λ k d lt. number_below seen (get_or texts k d) some)) some

-- a list that has a row keeps one, and gets one with each text
abbrev HasRow : List (List ℕ) → Type 0
HasRow seen = 0 < length seen

row_put : (seen : List (List ℕ)) (text : List ℕ) → HasRow (insert_key bytes_eq seen text)
row_put [] text = omega arith
row_put (x ∷ xs) text = put HasRow (x ∷ xs) text (omega arith) (λ _. omega arith)

row_new : (seen more : List (List ℕ)) → HasRow seen → HasRow (with_new seen more)
row_new seen more h = kept_fold (λ _. Unit {0}) HasRow (insert_key bytes_eq) (λ l text _ so. row_put l text) seen more (λ _ _ _. tt) h

row_of : (seen more : List (List ℕ)) → HasRow more → HasRow (with_new seen more)
row_of seen [] h = absurd (omega arith)
row_of seen (text ∷ more) h = row_new (insert_key bytes_eq seen text) more (row_put seen text)

module _ (texts : FileContent → List (List ℕ)) where
  rows_more : (seen : List (List ℕ)) (files : List FileContent) → HasRow seen → HasRow (fold (λ seen file. with_new seen (texts file)) seen files)
  rows_more seen files h =
      kept_fold (λ _. Unit {0}) HasRow (λ seen file. with_new seen (texts file)) (λ l file _ so. row_new l (texts file) so) seen files (λ _ _ _. tt) h

  rows_in : (seen : List (List ℕ)) (files : List FileContent)
      → All (λ file. HasRow (texts file) → HasRow (fold (λ seen file. with_new seen (texts file)) seen files)) files
  rows_in seen [] k d lt some = absurd (omega arith)
  rows_in seen (file ∷ more) zero d lt some = rows_more (with_new seen (texts file)) more (row_of seen (texts file) some)
  rows_in seen (file ∷ more) (suc k) d lt some = rows_in (with_new seen (texts file)) more k d (omega arith) some

-- where a file has a row, so has the application
record HasRowsOf (seen : Seen) (file : FileContent) : Type 0 where
  types : 0 < length file.types → HasRow seen.types
  names : 0 < length file.strings → HasRow seen.names
  protos : 0 < length file.protos → HasRow seen.protos

has_rows : (files : List FileContent) → All (HasRowsOf (seen_in files)) files
unfolding seen_in
has_rows files k d lt =
    let file = get_or files k d in
    let types = types_in files in
    record {
      types = λ some. rows_in type_texts [] files k d lt (let long = length-map file.types (string_at file) in omega arith);
      names = λ some. rows_in (λ file. file.strings) [] files k d lt some;
      protos = λ some. rows_in (protos_of types) [] files k d lt (let long = length-map file.protos (proto_numbers (type_numbers types file)) in omega arith);
    }

-- members so far: the numbers of classes are below so many
record IsMethodBelow (app : AppParts) (n : ℕ) (method : MethodRow) : Type 0 where
  class : method.class.0 < n
  name : IsName app method.name
  proto : IsProto app method.proto

record IsFieldBelow (app : AppParts) (n : ℕ) (field : FieldRow) : Type 0 where
  class : field.class.0 < n
  name : IsName app field.name
  kind : IsType app field.kind

-- the type that an instruction names is in the table
record HasKind (app : AppParts) (own : Ins) : Type 0 where
  in_table : (t : ℕ) → naming_of own ≡ naming.Kind t → t < length app.types

abbrev HasKinds : AppParts → BodyRows → Type 0
HasKinds app body = All (λ (place : Place). HasKind app place.ins) body.places

record AreRanged (app : AppParts) (x : Members) : Type 0 where
  classes : All (IsClassRow app) x.classes
  methods : All (IsMethodBelow app (length x.classes)) x.methods
  fields : All (IsFieldBelow app (length x.classes)) x.fields
  code : All (HasKinds app) x.code
  operands : All (λ operands. All (IsOperand app) operands) x.operands

-- what a row of methods or fields names is in range
abbrev IsNamedIn : AppParts → Named → Type 0
IsNamedIn app it = IsType app it.class × IsName app it.name × IsProto app it.proto

abbrev IsFieldIn : AppParts → NamedField → Type 0
IsFieldIn app it = IsType app it.class × IsName app it.name × IsType app it.kind

-- the rows of a file are in range
record AreRowsIn (app : AppParts) (file : FileContent) (rows : Rows) : Type 0 where
  types : (t : ℕ) → t < length file.types → IsType app (type_at rows t)
  methods : (m : ℕ) → m < length file.methods → IsNamedIn app (method_at rows m)
  fields : (f : ℕ) → f < length file.fields → IsFieldIn app (field_at rows f)

module _ (seen : Seen) (all : Members) (file : FileContent) (has : HasRowsOf seen file) where
  type_in : (t u : ℕ) → u < length file.types → slice_index (type_numbers seen.types file) t < length seen.types
  type_in t u lt = numbers_below seen.types (type_texts file) t (has.types (omega arith))

  name_in : (s u : ℕ) → u < length file.strings → slice_index (map (number_in seen.names) file.strings) s < length seen.names
  name_in s u lt = numbers_below seen.names file.strings s (has.names (omega arith))

  proto_in : (p u : ℕ) → u < length file.protos → slice_index (map (number_in seen.protos) (protos_of seen.types file)) p < length (map proto_row seen.protos)
  proto_in p u lt =
      let long = length-map seen.protos proto_row in
      let low = numbers_below seen.protos (protos_of seen.types file) p (has.protos (omega arith)) in omega arith

  method_named : (id : MethodId) → IsSoundMethod file id → IsNamedIn (app_of seen all) (named (numbers_of seen file) id)
  method_named id h = (type_in id.class id.class h.class, name_in id.name id.name h.name, proto_in id.proto id.proto h.proto)

  field_named : (id : FieldId) → IsSoundField file id → IsFieldIn (app_of seen all) (named_field (numbers_of seen file) id)
  field_named id h = (type_in id.class id.class h.class, name_in id.name id.name h.name, type_in id.kind id.kind h.kind)

  rows_ranged : IsSoundFile file → AreRowsIn (app_of seen all) file (rows_of seen file)
  unfolding rows_of
  rows_ranged sound = record {
    types = λ t lt. type_in t t lt;
    methods = λ m lt.
        All-map (IsNamedIn (app_of seen all)) (named (numbers_of seen file)) file.methods
        (All-weaker (IsSoundMethod file) (λ id. IsNamedIn (app_of seen all) (named (numbers_of seen file) id)) method_named file.methods sound.methods)
        m _ (let long = length-map file.methods (named (numbers_of seen file)) in omega arith);
    fields = λ f lt.
        All-map (IsFieldIn (app_of seen all)) (named_field (numbers_of seen file)) file.fields
        (All-weaker (IsSoundField file) (λ id. IsFieldIn (app_of seen all) (named_field (numbers_of seen file) id)) field_named file.fields sound.fields)
        f _ (let long = length-map file.fields (named_field (numbers_of seen file)) in omega arith);
  }

-- what a file adds is in range
module _ (app : AppParts) (file : FileContent) (rows : Rows) (within : AreRowsIn app file rows) where
  kind_there : (kind t : ℕ) → kind < length file.types → naming.Kind (slice_index rows.types kind) ≡ naming.Kind t → t < length app.types
  kind_there kind t there is = let same : slice_index rows.types kind ≡ t = cc in subst (λ n. n < length app.types) same (within.types kind there)

  kind_in : (own : Ins) → IsSoundIns file own → (t : ℕ) → naming_of (linked_ins rows own) ≡ naming.Kind t → t < length app.types
  unfolding linked_ins
  kind_in (ins.ConstClass to kind) there t is = kind_there kind t there.named is
  kind_in (ins.CheckCast object kind) there t is = kind_there kind t there.named is
  kind_in (ins.InstanceOf to object kind) there t is = kind_there kind t there.named is
  kind_in (ins.NewInstance to kind) there t is = kind_there kind t there.named is
  kind_in (ins.NewArray to size kind) there t is = kind_there kind t there.named is
  kind_in (ins.FilledNewArray op kind arguments) there t is = kind_there kind t there.named is
  kind_in other there t is = absurd (let no : ⊥ = cc in no)

  operand_in : (own : Naming) → IsThere file own → IsOperand app (operand_of rows own)
  operand_in (naming.Field field) there = within.fields field there
  operand_in (naming.Method method) there = within.methods method there
  operand_in other there = tt

  kinds_in : (code : Option FileCode) → ((own : FileCode) → code ≡ Some own → IsSoundCode file own) → HasKinds app (linked_body rows code)
  kinds_in None sound = λ k d lt. absurd (omega arith)
  kinds_in (Some own) sound =
      All-map (λ (place : Place). HasKind app place.ins) (linked_place rows) own.body.places
      (λ k d lt. record { in_table = kind_in (get_or own.body.places k d).ins ((sound own refl).each k d lt) })

  operands_in : (code : Option FileCode) → ((own : FileCode) → code ≡ Some own → IsSoundCode file own) → All (IsOperand app) (operands_of rows code)
  operands_in None sound = λ k d lt. absurd (omega arith)
  operands_in (Some own) sound =
      All-map (IsOperand app) (λ (place : Place). operand_of rows (naming_of place.ins)) own.body.places
      (λ k d lt. operand_in (naming_of (get_or own.body.places k d).ins) ((sound own refl).each k d lt).named)

  -- with a class that is open: its number is below the number of classes
  abbrev IsOpen : ℕ → Members → Type 0
  IsOpen class x = (class < length x.classes) × AreRanged app x

  field_in : (class : ℕ) (x : Members) (field : FileField) → field.id < length file.fields → IsOpen class x → IsOpen class (with_field rows class x field)
  field_in class x field there h =
      let it = within.fields field.id there in (
        h.0,
        record {
          classes = h.1.classes;
          methods = h.1.methods;
          fields = All-push (IsFieldBelow app (length x.classes)) x.fields (field_row rows class field) h.1.fields
              (record { class = h.0; name = it.1; kind = it.2 });
          code = h.1.code;
          operands = h.1.operands;
        },
      )

  method_in : (class : ℕ) (x : Members) (method : FileMethod) → IsSoundMember file method → IsOpen class x → IsOpen class (with_method rows class x method)
  method_in class x method sound h =
      let it = within.methods method.id sound.id in (
        h.0,
        record {
          classes = h.1.classes;
          methods = All-push (IsMethodBelow app (length x.classes)) x.methods (method_row rows class method) h.1.methods
              (record { class = h.0; name = it.1; proto = it.2 });
          fields = h.1.fields;
          code = All-push (HasKinds app) x.code (linked_body rows method.code) h.1.code (kinds_in method.code sound.code);
          operands = All-push (λ operands. All (IsOperand app) operands) x.operands (operands_of rows method.code) h.1.operands
              (operands_in method.code sound.code);
        },
      )

  parent_in : (parent : Option ℕ) → ((t : ℕ) → parent ≡ Some t → t < length file.types)
      → (t : TypeNo) → option_map (type_at rows) parent ≡ Some t → IsType app t
  parent_in None each t is = absurd (let no : ⊥ = cc in no)
  parent_in (Some p) each t is = let same : type_at rows p ≡ t = cc in subst (IsType app) same (within.types p (each p refl))

  class_in : (class : ClassContent) → IsSoundClass file class → IsClassRow app (class_row rows class)
  class_in class sound = record {
    name = within.types class.kind sound.kind;
    parent = parent_in class.parent sound.parent;
    interfaces = All-map (IsType app) (type_at rows) class.interfaces (λ k d lt. within.types (get_or class.interfaces k d) (sound.interfaces k d lt));
  }

  name_open : (x : Members) (class : ClassContent) → IsSoundClass file class → AreRanged app x → IsOpen (length x.classes) (with_name rows class x)
  name_open x class sound h =
      let long : length (x.classes ++ class_row rows class ∷ []) ≡ length x.classes + 1 = length-append x.classes (class_row rows class ∷ []) in (
        omega arith,
        record {
          classes = All-push (IsClassRow app) x.classes (class_row rows class) h.classes (class_in class sound);
          methods = All-weaker (IsMethodBelow app (length x.classes)) (IsMethodBelow app (length (x.classes ++ class_row rows class ∷ [])))
              (λ method below. record { class = let low = below.class in omega arith; name = below.name; proto = below.proto }) x.methods h.methods;
          fields = All-weaker (IsFieldBelow app (length x.classes)) (IsFieldBelow app (length (x.classes ++ class_row rows class ∷ [])))
              (λ field below. record { class = let low = below.class in omega arith; name = below.name; kind = below.kind }) x.fields h.fields;
          code = h.code;
          operands = h.operands;
        },
      )

  fields_in : (class : ℕ) (x : Members) (fields : List FileField) → All (λ (field : FileField). field.id < length file.fields) fields → IsOpen class x
      → IsOpen class (with_fields rows class x fields)
  fields_in class x fields each h =
      kept_fold (λ (field : FileField). field.id < length file.fields) (IsOpen class) (with_field rows class) (field_in class) x fields each h

  methods_in : (class : ℕ) (x : Members) (methods : List FileMethod) → All (IsSoundMember file) methods → IsOpen class x
      → IsOpen class (with_methods rows class x methods)
  methods_in class x methods each h = kept_fold (IsSoundMember file) (IsOpen class) (with_method rows class) (method_in class) x methods each h

  class_ranged : (x : Members) (class : ClassContent) → IsSoundClass file class → AreRanged app x → AreRanged app (with_class rows x class)
  unfolding with_class
  class_ranged x class sound h =
      let n = length x.classes in
      (methods_in n _ class.virtuals sound.virtuals (methods_in n _ class.directs sound.directs
      (fields_in n _ class.instances sound.instances (fields_in n _ class.statics sound.statics (name_open x class sound h))))).1

  classes_ranged : (x : Members) (classes : List ClassContent) → All (IsSoundClass file) classes → AreRanged app x
      → AreRanged app (fold (with_class rows) x classes)
  classes_ranged x classes each h = kept_fold (IsSoundClass file) (AreRanged app) (with_class rows) class_ranged x classes each h

-- the same over files
record IsFit (seen : Seen) (file : FileContent) : Type 0 where
  has : HasRowsOf seen file
  sound : IsSoundFile file

file_ranged : (seen : Seen) (all x : Members) (file : FileContent) → IsFit seen file → AreRanged (app_of seen all) x
    → AreRanged (app_of seen all) (with_file seen x file)
unfolding with_file
file_ranged seen all x file fit h =
    classes_ranged (app_of seen all) file (rows_of seen file) (rows_ranged seen all file fit.has fit.sound) x file.classes fit.sound.classes h

ranged_none : (app : AppParts) → AreRanged app no_members
ranged_none app = record {
  classes = All-nil (IsClassRow app);
  methods = All-nil (IsMethodBelow app 0);
  fields = All-nil (IsFieldBelow app 0);
  code = All-nil (HasKinds app);
  operands = All-nil (λ operands. All (IsOperand app) operands);
}

files_ranged : (seen : Seen) (all : Members) (files : List FileContent) → All (IsFit seen) files → AreRanged (app_of seen all) (members_in seen files)
unfolding members_in
files_ranged seen all files each =
    kept_fold (IsFit seen) (AreRanged (app_of seen all)) (with_file seen) (file_ranged seen all) no_members files each (ranged_none (app_of seen all))

files_fit : (files : List FileContent) → All IsSoundFile files → All (IsFit (seen_in files)) files
files_fit files sound k d lt = record { has = has_rows files k d lt; sound = sound k d lt }

-- the prototypes
proto_in_range : (seen : Seen) (all : Members) (file : FileContent) (proto : ProtoContent) → IsFit seen file → IsSoundProto file proto
    → IsProtoRow (app_of seen all) (proto_row (proto_numbers (type_numbers seen.types file) proto))
proto_in_range seen all file proto fit sound =
    let types = type_numbers seen.types file in
    record {
      result = type_in seen all file fit.has proto.result proto.result sound.result;
      params = All-map (IsType (app_of seen all)) type_no (map (slice_index types) proto.params)
          (All-map (λ n. n < length seen.types) (slice_index types) proto.params
          (λ k d lt. type_in seen all file fit.has (get_or proto.params k d) (get_or proto.params k d) (sound.params k d lt)));
    }

protos_ranged : (files : List FileContent) (all : Members) → All (IsFit (seen_in files)) files
    → All (IsProtoRow (app_of (seen_in files) all)) (map proto_row (seen_in files).protos)
unfolding seen_in
protos_ranged files all fit =
    let seen = seen_in files in
    let app = app_of seen all in
    All-map (IsProtoRow app) proto_row seen.protos
    (files_each (λ ns. IsProtoRow app (proto_row ns)) (IsFit seen) (protos_of seen.types)
    (λ file fits. All-map (λ ns. IsProtoRow app (proto_row ns)) (proto_numbers (type_numbers seen.types file)) file.protos
    (λ k d lt. proto_in_range seen all file (get_or file.protos k d) fits (fits.sound.protos k d lt)))
    files fit)

-- the instruction that is read
ins_kind : (app : AppParts) (places : List Place) (i : ℕ) (found : Option Place) → slice_get places i ≡ found
    → All (λ (place : Place). HasKind app place.ins) places → (own : Ins) (t : ℕ) → ins_of found ≡ Some own → naming_of own ≡ naming.Kind t → t < length app.types
ins_kind app places i None at each own t is kind = absurd (let no : ⊥ = cc in no)
ins_kind app places i (Some place) at each own t is kind =
    let same : place.ins ≡ own = cc in
    let of : HasKind app place.ins =
    subst (λ (p : Place). HasKind app p.ins) (get_or_from_slice_get places i place place at) (each i place (slice_get_within places i place at)) in
    of.in_table t (ap naming_of same ∙ kind)

kinds_ranged : (app : AppParts) → All (HasKinds app) app.code
    → (m i : ℕ) (own : Ins) (t : ℕ) → ins_at app m i ≡ Some own → naming_of own ≡ naming.Kind t → t < length app.types
unfolding places_of place_at
kinds_ranged app each m i own t is kind =
    let body = get_or app.code m no_body in
    let kinds = read_either (HasKinds app) app.code no_body m each (λ k d lt. absurd (omega arith)) in
    ins_kind app body.places i (slice_get body.places i) refl kinds own t is kind

-- the application of sound files
pub in_range : (files : List FileContent) → All IsSoundFile files → AreInRange (linked files)
unfolding linked
in_range files sound =
    let seen = seen_in files in
    let all = members_in seen files in
    let app = app_of seen all in
    let fit = files_fit files sound in
    let ranged = files_ranged seen all files fit in record {
      protos = protos_ranged files all fit;
      classes = ranged.classes;
      methods = All-weaker (IsMethodBelow app (length all.classes)) (IsMethodRow app)
          (λ _ h. record { class = h.class; name = h.name; proto = h.proto }) all.methods ranged.methods;
      fields = All-weaker (IsFieldBelow app (length all.classes)) (IsFieldRow app)
          (λ _ h. record { class = h.class; name = h.name; kind = h.kind }) all.fields ranged.fields;
      operands = ranged.operands;
      kinds = kinds_ranged app ranged.code;
    }
