-- Code fits its method: each method of an application comes from one of a file, with its code and what the code names.
use Rattle.std.proofs.Common.{false, ◌≡◌, ◌<◌, ◌≤◌, ◌+◌, ◌++◌, ℕ, zero, suc, List, [], ◌∷◌, length, map, fold, sum_by, get_or, slice_get, slice_index, slice_index_or, All, Option, Some, None, option_map, if◌then◌else◌, refl, sym, ap, subst, ◌∙◌, zero-add, arith}
use Rattle.std.proofs.lemmas.List.{length-map, map-append, get_or-map}
use Rattle.std.proofs.lemmas.List.Elements.{All-nil, All-head, All-map, All-tail, All-push}
use Rattle.std.proofs.lemmas.List.Sums.{sum_by-cons, sum_by_push}
use Rattle.std.proofs.lemmas.Option.{slice_get-map, slice_get_within, slice_get-get_or, get_or_from_slice_get}
use Rattle.ns_base.specs.declared.rows.TypeNo.{TypeNo}
use Rattle.dalvik.specs.declared.body.Place.{Place}
use Rattle.dalvik.specs.declared.ins.Args.{Args}
use Rattle.dalvik.specs.declared.ins.Ins.{Ins}
use Rattle.dalvik.specs.declared.ins.Ins.TheVariants as ins
use Rattle.app_model.specs.declared.rows.MethodRow.{MethodRow}
use Rattle.app_model.specs.declared.rows.Named.{Named}
use Rattle.app_model.specs.declared.rows.Operand.{Operand}
use Rattle.dalvik.specs.Body.{BodyRows, IsBody}
use Rattle.dalvik.specs.Descriptors.{words_of}
use Rattle.dalvik.specs.Calls.{is_static_call}
use Rattle.dalvik.specs.Naming.{naming_of}
use Rattle.app_model.specs.Names.{type_text}
use Rattle.app_model.specs.Parts.{AppParts}
use Rattle.dalvik.specs.Access.{is_bodiless}
use Rattle.app_model.specs.Sound.{params_len, FitsOperand, IsSoundMethod}
use Rattle.app_model.specs.Words.{no_body, places_of, place_at, operand_at, ins_of}
use Rattle.dex_tables.specs.declared.tables.MethodId.{MethodId}
use Rattle.dex_file.specs.declared.parts.FileCode.{FileCode}
use Rattle.dex_file.specs.declared.parts.FileField.{FileField}
use Rattle.dex_file.specs.declared.parts.FileMethod.{FileMethod}
use Rattle.dex_file.specs.Content.{ProtoContent, ClassContent, FileContent}
use Rattle.dex_file.specs.Content as in_file
use Rattle.dex_file.specs.Sound.{IsSoundFile, IsSoundClass, IsSoundMember, IsSoundCode, IsSoundIns, instructions_of, instructions_in}
use Rattle.dex_file.specs.Sound as by_file
use Rattle.app_rows.specs.Numbers.{Seen, Numbers, seen_in, types_in, numbers_of, string_at, type_texts, type_numbers, proto_numbers, protos_of}
use Rattle.app_rows.specs.Linked.{Rows, Members, no_members, type_no, proto_row, named, method_at, rows_of, linked_ins, linked_place, linked_body, operand_of, operands_of, method_row, with_field, with_fields, with_method, with_methods, with_name, with_class, with_file, members_in, app_of, linked}
use Rattle.app_rows.specs.Linked as link
use Rattle.app_rows.proofs.Moved.{body-linked}
use Rattle.app_rows.proofs.Spelling.{Has, numbered, has_all}

-- ---- a method that is neither abstract nor native has code
abbrev pub IsCoded : FileMethod → Type 0
IsCoded method = is_bodiless method.flags ≡ false → method.code ≡ None → ⊥

-- each method of a file
abbrev pub AreCoded : FileContent → Type 0
AreCoded file = All (λ (class : ClassContent). All IsCoded class.directs × All IsCoded class.virtuals) file.classes

-- a sound file whose types and prototypes are among all those seen
record IsSpelt (seen : Seen) (file : FileContent) : Type 0 where
  sound : IsSoundFile file
  types : All (Has seen.types) (type_texts file)
  protos : All (Has seen.protos) (protos_of seen.types file)

-- ---- a call of a file takes as many registers by the application's prototype
abbrev no_proto : ProtoContent
no_proto = record { shorty = 0; result = 0; params = [] }

abbrev no_method : MethodId
no_method = record { class = 0; proto = 0; name = 0 }

module _ (seen : Seen) (x : Members) (file : FileContent) (spelt : IsSpelt seen file) where
  abbrev app : AppParts
  app = app_of seen x

  abbrev types : List ℕ
  types = type_numbers seen.types file

  abbrev numbers : Numbers
  numbers = numbers_of seen file

  abbrev rows : Rows
  rows = rows_of seen file

  -- a type of the file has its text in the application
  type-same : (t : ℕ) → t < length file.types → type_text app (slice_index types t) ≡ in_file.type_text file (Some t)
  unfolding type_text
  type-same t lt =
      get_or_from_slice_get seen.types (slice_index types t) (get_or (type_texts file) t []) []
      (numbered seen.types (type_texts file) t (omega (arith, lt, length-map file.types (string_at file))) spelt.types)
      ∙ get_or-map (string_at file) file.types t 0 [] lt
      ∙ sym (ap (in_file.string_in file) (slice_get-get_or file.types t 0 lt))

  params-same : (params : List ℕ) → All (by_file.IsType file) params
      → sum_by (λ (t : TypeNo). words_of (type_text app t.0)) (map type_no (map (slice_index types) params))
      ≡ sum_by (λ (t : ℕ). words_of (in_file.type_text file (Some t))) params
  params-same [] all = refl
  params-same (t ∷ params) all =
      sum_by-cons (λ (n : TypeNo). words_of (type_text app n.0)) (type_no (slice_index types t)) (map type_no (map (slice_index types) params))
      ∙ ap (λ (n : ℕ). n + sum_by (λ (n : TypeNo). words_of (type_text app n.0)) (map type_no (map (slice_index types) params)))
      (ap words_of (type-same t (all 0 t (omega arith))))
      ∙ ap (λ (n : ℕ). words_of (in_file.type_text file (Some t)) + n) (params-same params (All-tail (by_file.IsType file) t params all))
      ∙ sym (sum_by-cons (λ (t : ℕ). words_of (in_file.type_text file (Some t))) t params)

  -- a prototype of the file, by its row
  proto-at : (p : ℕ) → p < length file.protos
      → slice_get app.protos (slice_index numbers.protos p) ≡ Some (proto_row (proto_numbers types (get_or file.protos p no_proto)))
  proto-at p lt =
      slice_get-map proto_row seen.protos (slice_index numbers.protos p)
      ∙ ap (option_map proto_row) (numbered seen.protos (protos_of seen.types file) p (omega (arith, lt, length-map file.protos (proto_numbers types))) spelt.protos
      ∙ ap Some (get_or-map (proto_numbers types) file.protos p no_proto [] lt))

  proto-same : (p : ℕ) → p < length file.protos
      → params_len app (slice_get app.protos (slice_index numbers.protos p)) ≡ by_file.params_len file (slice_get file.protos p)
  proto-same p lt =
      let proto : ProtoContent = get_or file.protos p no_proto in
      ap (params_len app) (proto-at p lt)
      ∙ params-same proto.params (spelt.sound.protos p no_proto lt).params
      ∙ sym (ap (by_file.params_len file) (slice_get-get_or file.protos p no_proto lt))

  method-same : (m : ℕ) → m < length file.methods
      → params_len app (slice_get app.protos (method_at rows m).proto.0) ≡ by_file.method_len file (slice_get file.methods m)
  unfolding rows_of
  method-same m lt =
      let id : MethodId = get_or file.methods m no_method in
      ap (λ (n : Named). params_len app (slice_get app.protos n.proto.0)) (get_or-map (named numbers) file.methods m no_method _ lt)
      ∙ proto-same id.proto (spelt.sound.methods m no_method lt).proto
      ∙ sym (ap (by_file.method_len file) (slice_get-get_or file.methods m no_method lt))

  -- ---- what an instruction names fits it
  call-fits : (op method : ℕ) (arguments : Args) → IsSoundIns file (ins.Invoke op method arguments)
      → FitsOperand app (linked_ins rows (ins.Invoke op method arguments)) (operand_of rows (naming_of (ins.Invoke op method arguments)))
  unfolding linked_ins
  call-fits op method arguments sound = sound.arguments ∙ ap (λ (n : ℕ). (if is_static_call op then 0 else 1) + n) (sym (method-same method sound.named))

  ins-fits : (i : Ins) → IsSoundIns file i → FitsOperand app (linked_ins rows i) (operand_of rows (naming_of i))
  unfolding linked_ins
  ins-fits (ins.Invoke op method arguments) h = call-fits op method arguments h
  ins-fits other h = tt

  places-fit : (places : List Place) → All (λ (place : Place). IsSoundIns file place.ins) places → (i : ℕ) (own : Ins) (operand : Operand)
      → ins_of (slice_get (map (linked_place rows) places) i) ≡ Some own
      → slice_get (map (λ (place : Place). operand_of rows (naming_of place.ins)) places) i ≡ Some operand
      → FitsOperand app own operand
  places-fit [] all i own operand at named = absurd (let no : ⊥ = cc in no)
  places-fit (p ∷ ps) all zero own operand at named =
      let is : linked_ins rows p.ins ≡ own = cc in
      let names : operand_of rows (naming_of p.ins) ≡ operand = cc in
      subst (λ (i : Ins). FitsOperand app i operand) is (subst (λ (o : Operand). FitsOperand app (linked_ins rows p.ins) o) names
      (ins-fits p.ins (all 0 p (omega arith))))
  places-fit (p ∷ ps) all (suc i) own operand at named = places-fit ps (All-tail (λ (place : Place). IsSoundIns file place.ins) p ps all) i own operand at named

  code-fits : (code : Option FileCode) → ((own : FileCode) → code ≡ Some own → IsSoundCode file own) → (i : ℕ) (own : Ins) (operand : Operand)
      → ins_of (slice_get (linked_body rows code).places i) ≡ Some own → slice_get (operands_of rows code) i ≡ Some operand
      → FitsOperand app own operand
  code-fits None sound i own operand at named = absurd (let no : ⊥ = cc in no)
  code-fits (Some code) sound i own operand at named = places-fit code.body.places (sound code refl).each i own operand at named

-- ---- where each method comes from
record Origin : Type 0 where
  rows : Rows
  class : ℕ
  own : FileMethod

abbrev row_made : Origin → MethodRow
row_made o = method_row o.rows o.class o.own

abbrev code_made : Origin → BodyRows
code_made o = linked_body o.rows o.own.code

abbrev operands_made : Origin → List Operand
operands_made o = operands_of o.rows o.own.code

-- a method of one of the files
record IsFrom (seen : Seen) (o : Origin) : Type 0 where
  file : FileContent
  spelt : IsSpelt seen file
  by_rows : o.rows ≡ rows_of seen file
  sound : IsSoundMember file o.own
  coded : IsCoded o.own

-- the three tables come from the same methods
record IsMade (seen : Seen) (x : Members) : Type 0 where
  origins : List Origin
  methods : x.methods ≡ map row_made origins
  code : x.code ≡ map code_made origins
  operands : x.operands ≡ map operands_made origins
  each : All (IsFrom seen) origins

module _ (seen : Seen) where
  module _ (file : FileContent) (spelt : IsSpelt seen file) where
    made-fields : (class : ℕ) (x : Members) (fields : List FileField) → IsMade seen x → IsMade seen (with_fields (rows_of seen file) class x fields)
    made-fields class x [] h = h
    made-fields class x (field ∷ more) h = made-fields class (with_field (rows_of seen file) class x field) more
        (record { origins = h.origins; methods = h.methods; code = h.code; operands = h.operands; each = h.each })

    made-method : (class : ℕ) (x : Members) (own : FileMethod) → IsSoundMember file own → IsCoded own → IsMade seen x
        → IsMade seen (with_method (rows_of seen file) class x own)
    made-method class x own sound coded h =
        let o : Origin = record { rows = rows_of seen file; class = class; own = own } in record {
          origins = h.origins ++ o ∷ [];
          methods = ap (λ (l : List MethodRow). l ++ row_made o ∷ []) h.methods ∙ sym (map-append row_made h.origins (o ∷ []));
          code = ap (λ (l : List BodyRows). l ++ code_made o ∷ []) h.code ∙ sym (map-append code_made h.origins (o ∷ []));
          operands = ap (λ (l : List (List Operand)). l ++ operands_made o ∷ []) h.operands ∙ sym (map-append operands_made h.origins (o ∷ []));
          each = All-push (IsFrom seen) h.origins o h.each (record { file = file; spelt = spelt; by_rows = refl; sound = sound; coded = coded });
        }

    made-methods : (class : ℕ) (x : Members) (methods : List FileMethod) → All (IsSoundMember file) methods → All IsCoded methods → IsMade seen x
        → IsMade seen (with_methods (rows_of seen file) class x methods)
    made-methods class x [] sound coded h = h
    made-methods class x (own ∷ more) sound coded h = made-methods class (with_method (rows_of seen file) class x own) more
        (All-tail (IsSoundMember file) own more sound) (All-tail IsCoded own more coded)
        (made-method class x own (All-head (IsSoundMember file) own more sound) (All-head IsCoded own more coded) h)

    made-class : (x : Members) (class : ClassContent) → IsSoundClass file class → All IsCoded class.directs × All IsCoded class.virtuals → IsMade seen x
        → IsMade seen (with_class (rows_of seen file) x class)
    unfolding with_class
    made-class x class sound coded h =
        made-methods _ _ class.virtuals sound.virtuals coded.1 (made-methods _ _ class.directs sound.directs coded.0
        (made-fields _ _ class.instances (made-fields _ _ class.statics
        (record { origins = h.origins; methods = h.methods; code = h.code; operands = h.operands; each = h.each }))))

    made-classes : (x : Members) (classes : List ClassContent) → All (IsSoundClass file) classes
        → All (λ (class : ClassContent). All IsCoded class.directs × All IsCoded class.virtuals) classes → IsMade seen x
        → IsMade seen (fold (with_class (rows_of seen file)) x classes)
    made-classes x [] sound coded h = h
    made-classes x (class ∷ more) sound coded h = made-classes (with_class (rows_of seen file) x class) more
        (All-tail (IsSoundClass file) class more sound) (λ k d lt. coded (suc k) d (omega arith))
        (made-class x class (All-head (IsSoundClass file) class more sound) (coded 0 class (omega arith)) h)

  made-files : (x : Members) (files : List FileContent) → All (IsSpelt seen) files → All AreCoded files → IsMade seen x
      → IsMade seen (fold (with_file seen) x files)
  unfolding with_file
  made-files x [] spelt coded h = h
  made-files x (file ∷ more) spelt coded h = made-files (with_file seen x file) more
      (All-tail (IsSpelt seen) file more spelt) (All-tail AreCoded file more coded)
      (made-classes file (All-head (IsSpelt seen) file more spelt) x file.classes
      (All-head (IsSpelt seen) file more spelt).sound.classes (All-head AreCoded file more coded) h)

-- all files are spelt by what they show
all_spelt : (files : List FileContent) → All IsSoundFile files → All (IsSpelt (seen_in files)) files
unfolding seen_in
all_spelt files sound = λ k d lt. record {
  sound = sound k d lt;
  types = has_all type_texts [] files k d lt;
  protos = has_all (protos_of (types_in files)) [] files k d lt;
}

made : (files : List FileContent) → All IsSoundFile files → All AreCoded files → IsMade (seen_in files) (members_in (seen_in files) files)
unfolding members_in
made files sound coded = made-files (seen_in files) no_members files (all_spelt files sound) coded
    (record { origins = []; methods = refl; code = refl; operands = refl; each = All-nil _ })

-- ---- what a method has
begins-code : (rows : Rows) (file : FileContent) (own : FileMethod) (code : Option FileCode) → own.code ≡ code → IsSoundMember file own → IsCoded own
    → is_bodiless own.flags ≡ false → 0 < length (linked_body rows code).places
begins-code rows file own None is sound coded has = absurd (coded has is)
begins-code rows file own (Some code) is sound coded has =
    let begins = (sound.code code is).begins in let same = length-map code.body.places (linked_place rows) in omega arith

code-registers : (rows : Rows) (code : Option FileCode) → (linked_body rows code).registers ≡ link.registers_of code
code-registers rows None = refl
code-registers rows (Some code) = refl

ins-within : (file : FileContent) (code : Option FileCode) → ((own : FileCode) → code ≡ Some own → IsSoundCode file own)
    → link.ins_of code ≤ link.registers_of code
ins-within file None sound = omega arith
ins-within file (Some code) sound = (sound code refl).fits

-- a row whose code and operands are those of a method of a file
is-sound : (seen : Seen) (x : Members) (m : ℕ) (method : MethodRow) (o : Origin) → IsFrom seen o → method ≡ row_made o
    → slice_index_or x.code m no_body ≡ code_made o → slice_index_or x.operands m [] ≡ operands_made o → IsSoundMethod (app_of seen x) m method
unfolding places_of place_at operand_at
is-sound seen x m method o from is code operands =
    let registers : (slice_index_or x.code m no_body).registers ≡ link.registers_of o.own.code =
    ap (λ (b : BodyRows). b.registers) code ∙ code-registers o.rows o.own.code in record {
      registers = registers ∙ sym (ap (λ (r : MethodRow). r.registers) is);
      fits = subst (λ (r : MethodRow). r.ins ≤ r.registers) (sym is) (ins-within from.file o.own.code from.sound.code);
      begins = λ has. subst (λ (b : BodyRows). 0 < length b.places) (sym code)
          (begins-code o.rows from.file o.own o.own.code refl from.sound from.coded (subst (λ (r : MethodRow). is_bodiless r.flags ≡ false) is has));
      operands = λ i own operand at named.
          code-fits seen x from.file from.spelt o.own.code from.sound.code i own operand
          (sym (ap (λ (b : BodyRows). ins_of (slice_get b.places i)) (code ∙ ap (λ (r : Rows). linked_body r o.own.code) from.by_rows)) ∙ at)
          (sym (ap (λ (l : List Operand). slice_get l i) (operands ∙ ap (λ (r : Rows). operands_of r o.own.code) from.by_rows)) ∙ named);
    }

-- the method of a number
method-made : (seen : Seen) (x : Members) → IsMade seen x → (m : ℕ) (method : MethodRow) → slice_get x.methods m ≡ Some method
    → IsSoundMethod (app_of seen x) m method
method-made seen x h m method at =
    let d : Origin = record { rows = record { types = []; methods = []; fields = [] }; class = 0; own = record { id = 0; flags = 0; code = None } } in
    let same = length-map h.origins row_made in
    let there = slice_get_within x.methods m method at in
    let long : length x.methods ≡ length (map row_made h.origins) = ap length h.methods in
    let lt : m < length h.origins = omega arith in
    is-sound seen x m method (get_or h.origins m d) (h.each m d lt)
    (sym (get_or_from_slice_get x.methods m method method at) ∙ ap (λ (l : List MethodRow). get_or l m method) h.methods
    ∙ get_or-map row_made h.origins m d method lt)
    (ap (λ (l : List BodyRows). get_or l m no_body) h.code ∙ get_or-map code_made h.origins m d no_body lt)
    (ap (λ (l : List (List Operand)). get_or l m []) h.operands ∙ get_or-map operands_made h.origins m d [] lt)

-- each method of an application of sound files is sound
pub methods_sound : (files : List FileContent) → All IsSoundFile files → All AreCoded files
    → (m : ℕ) (method : MethodRow) → slice_get (linked files).methods m ≡ Some method → IsSoundMethod (linked files) m method
unfolding linked
methods_sound files sound coded m method at = method-made (seen_in files) (members_in (seen_in files) files) (made files sound coded) m method at

-- the body of a method, and each one of the application
body-sound : (seen : Seen) (rows : Rows) (file : FileContent) (code : Option FileCode) → ((own : FileCode) → code ≡ Some own → IsSoundCode file own)
    → IsBody (linked_body rows code).registers (linked_body rows code).places
body-sound seen rows file None sound = record { limit = omega arith; rising = λ i j d lt below. absurd (omega arith); each = λ k d below. absurd (omega arith) }
body-sound seen rows file (Some own) sound = body-linked rows own.body.registers own.body.places (sound own refl).body

pub bodies_sound : (files : List FileContent) → All IsSoundFile files → All AreCoded files → All (λ (body : BodyRows). IsBody body.registers body.places) (linked files).code
unfolding linked
bodies_sound files sound coded =
    let is = made files sound coded in
    subst (All (λ (body : BodyRows). IsBody body.registers body.places)) (sym is.code)
    (All-map (λ (body : BodyRows). IsBody body.registers body.places) code_made is.origins
    (λ k d below. let from = is.each k d below in body-sound (seen_in files) (get_or is.origins k d).rows from.file (get_or is.origins k d).own.code from.sound.code))

-- ---- how many instructions there are
abbrev total : Members → ℕ
total x = sum_by (λ (body : BodyRows). length body.places) x.code

body-count : (rows : Rows) (code : Option FileCode) → length (linked_body rows code).places ≡ by_file.code_len code
body-count rows None = refl
body-count rows (Some code) = length-map code.body.places (linked_place rows)

module _ (rows : Rows) where
  total-fields : (class : ℕ) (x : Members) (fields : List FileField) → total (with_fields rows class x fields) ≡ total x
  total-fields class x [] = refl
  total-fields class x (field ∷ more) = total-fields class (with_field rows class x field) more

  total-method : (class : ℕ) (x : Members) (own : FileMethod) → total (with_method rows class x own) ≡ total x + instructions_of own
  total-method class x own = sum_by_push (λ (body : BodyRows). length body.places) x.code (linked_body rows own.code)
      ∙ ap (λ (n : ℕ). total x + n) (body-count rows own.code)

  total-methods : (class : ℕ) (x : Members) (methods : List FileMethod) → total (with_methods rows class x methods) ≡ total x + sum_by instructions_of methods
  total-methods class x [] = omega arith
  total-methods class x (own ∷ more) =
      let rest = total-methods class (with_method rows class x own) more in
      let first = total-method class x own in
      let both = sum_by-cons instructions_of own more in
      omega arith

  total-class : (x : Members) (class : ClassContent) → total (with_class rows x class) ≡ total x + instructions_in class
  unfolding with_class
  total-class x class =
      let n = length x.classes in
      let named : Members = with_name rows class x in
      let statics : Members = with_fields rows n named class.statics in
      let fields : Members = with_fields rows n statics class.instances in
      let directs : Members = with_methods rows n fields class.directs in
      let a = total-fields n named class.statics in
      let b = total-fields n statics class.instances in
      let c = total-methods n fields class.directs in
      let d = total-methods n directs class.virtuals in
      omega arith

  total-classes : (x : Members) (classes : List ClassContent) → total (fold (with_class rows) x classes) ≡ total x + sum_by instructions_in classes
  total-classes x [] = omega arith
  total-classes x (class ∷ more) =
      let rest = total-classes (with_class rows x class) more in
      let first = total-class x class in
      let both = sum_by-cons instructions_in class more in
      omega arith

total-files : (seen : Seen) (x : Members) (files : List FileContent) → All IsSoundFile files
    → total (fold (with_file seen) x files) ≤ total x + sum_by (λ (file : FileContent). file.units) files
unfolding with_file
total-files seen x [] sound = omega arith
total-files seen x (file ∷ more) sound =
    let rest = total-files seen (with_file seen x file) more (All-tail IsSoundFile file more sound) in
    let first = total-classes (rows_of seen file) x file.classes in
    let few = (All-head IsSoundFile file more sound).units in
    let both = sum_by-cons (λ (file : FileContent). file.units) file more in
    omega arith

-- an application of sound files has at most as many instructions as the files have code units
pub instructions_few : (files : List FileContent) → All IsSoundFile files
    → sum_by (λ (body : BodyRows). length body.places) (linked files).code ≤ sum_by (λ (file : FileContent). file.units) files
unfolding linked members_in
instructions_few files sound =
    subst (λ (n : ℕ). total (fold (with_file (seen_in files)) no_members files) ≤ n) (zero-add (sum_by (λ (file : FileContent). file.units) files))
    (total-files (seen_in files) no_members files sound)
