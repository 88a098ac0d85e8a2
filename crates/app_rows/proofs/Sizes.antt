-- How many rows an application has, and that each method has an entry of code and operands.
use Rattle.std.proofs.Common.{◌≡◌, ◌<◌, ◌≤◌, ◌+◌, ◌*◌, ◌^◌, ℕ, zero, suc, List, [], ◌∷◌, ◌++◌, length, map, fold, sum_by, get_or, All, Option, Some, None, refl, sym, ap, subst, ◌∙◌, arith}
use Rattle.std.proofs.lemmas.List.{length-map, length-append, map-append}
use Rattle.std.proofs.lemmas.List.Sums.{sum_by-cons}
use Rattle.app_model.specs.declared.rows.Operand.{Operand}
use Rattle.dalvik.specs.declared.body.Place.{Place}
use Rattle.dalvik.specs.Body.{BodyRows}
use Rattle.app_model.specs.Parts.{AppParts}
use Rattle.app_model.specs.Words.{IsApp, no_body, places_of}
use Rattle.dex_file.specs.declared.parts.FileCode.{FileCode}
use Rattle.dex_file.specs.declared.parts.FileField.{FileField}
use Rattle.dex_file.specs.declared.parts.FileMethod.{FileMethod}
use Rattle.dex_file.specs.Content.{ClassContent, FileContent}
use Rattle.app_rows.specs.Numbers.{Seen, seen_in}
use Rattle.dalvik.specs.Naming.{naming_of}
use Rattle.app_rows.specs.Linked.{Rows, Members, no_members, with_field, with_fields, with_method, with_methods, with_name, with_class, with_file, members_in, rows_of, app_of, linked, linked_place, linked_body, operand_of, operands_of, proto_row, class_row, field_row, method_row}
use Rattle.dex_file.specs.Sizes.{members_of}
use Rattle.app_rows.specs.Small.{IsSmall, AreSmall}

-- the first of small files, and the others
pub small_more : (files : List FileContent) (file : FileContent) (rest : List FileContent) → files ≡ file ∷ rest → All IsSmall files → IsSmall file × All IsSmall rest
small_more files file rest is small =
    let all = subst (All IsSmall) is small in
    (all 0 file (omega arith), λ k d lt. all (suc k) d (omega arith))

place_count : BodyRows → ℕ
place_count body = length body.places

-- at most so many classes, and so many methods and fields
record IsSized (x : Members) (c n : ℕ) : Type 0 where
  classes : length x.classes ≤ c
  members : length x.methods + length x.fields ≤ n
  code : length x.code ≡ length x.methods
  operands : map (λ (ops : List Operand). length ops) x.operands ≡ map (λ (body : BodyRows). length body.places) x.code

one_more : {A : Type 0} (xs : List A) (x : A) → length (xs ++ x ∷ []) ≡ length xs + 1
one_more xs x = length-append xs (x ∷ [])

sized-weaker : (x : Members) (c d n m : ℕ) → c ≤ d → n ≤ m → IsSized x c n → IsSized x d m
sized-weaker x c d n m le more h = record {
  classes = let was = h.classes in omega arith;
  members = let was = h.members in omega arith;
  code = h.code;
  operands = h.operands;
}

sized-field : (rows : Rows) (class c n : ℕ) (x : Members) (field : FileField) → IsSized x c n → IsSized (with_field rows class x field) c (n + 1)
sized-field rows class c n x field h = record {
  classes = h.classes;
  members = let was = h.members in let one = one_more x.fields (field_row rows class field) in omega arith;
  code = h.code;
  operands = h.operands;
}

entries : (rows : Rows) (code : Option FileCode) → length (operands_of rows code) ≡ length (linked_body rows code).places
entries rows None = refl
entries rows (Some code) = length-map code.body.places (λ (place : Place). operand_of rows (naming_of place.ins)) ∙ sym (length-map code.body.places (linked_place rows))

sized-method : (rows : Rows) (class c n : ℕ) (x : Members) (method : FileMethod) → IsSized x c n → IsSized (with_method rows class x method) c (n + 1)
sized-method rows class c n x method h = record {
  classes = h.classes;
  members = let was = h.members in let one = one_more x.methods (method_row rows class method) in omega arith;
  code = let was = h.code in let one = one_more x.methods (method_row rows class method) in let other = one_more x.code (linked_body rows method.code) in omega arith;
  operands =
      map-append (λ (ops : List Operand). length ops) x.operands (operands_of rows method.code ∷ [])
      ∙ ap (λ l. l ++ length (operands_of rows method.code) ∷ []) h.operands
      ∙ ap (λ n. map (λ (body : BodyRows). length body.places) x.code ++ n ∷ []) (entries rows method.code)
      ∙ sym (map-append (λ (body : BodyRows). length body.places) x.code (linked_body rows method.code ∷ []));
}

sized-name : (rows : Rows) (class : ClassContent) (c n : ℕ) (x : Members) → IsSized x c n → IsSized (with_name rows class x) (c + 1) n
sized-name rows class c n x h = record {
  classes = let was = h.classes in let one = one_more x.classes (class_row rows class) in omega arith;
  members = h.members;
  code = h.code;
  operands = h.operands;
}

sized-fields : (rows : Rows) (class c n : ℕ) (x : Members) (fields : List FileField) → IsSized x c n → IsSized (with_fields rows class x fields) c (n + length fields)
sized-fields rows class c n x [] h = sized-weaker _ c c n (n + 0) (omega arith) (omega arith) h
sized-fields rows class c n x (field ∷ more) h =
    sized-weaker _ c c (n + 1 + length more) (n + length (field ∷ more)) (omega arith) (omega arith)
    (sized-fields rows class c (n + 1) _ more (sized-field rows class c n x field h))

sized-methods : (rows : Rows) (class c n : ℕ) (x : Members) (methods : List FileMethod) → IsSized x c n → IsSized (with_methods rows class x methods) c (n + length methods)
sized-methods rows class c n x [] h = sized-weaker _ c c n (n + 0) (omega arith) (omega arith) h
sized-methods rows class c n x (method ∷ more) h =
    sized-weaker _ c c (n + 1 + length more) (n + length (method ∷ more)) (omega arith) (omega arith)
    (sized-methods rows class c (n + 1) _ more (sized-method rows class c n x method h))

sized-class : (rows : Rows) (c n : ℕ) (x : Members) (class : ClassContent) → IsSized x c n → IsSized (with_class rows x class) (c + 1) (n + members_of class)
unfolding with_class
sized-class rows c n x class h =
    sized-weaker _ (c + 1) (c + 1) (n + length class.statics + length class.instances + length class.directs + length class.virtuals) (n + members_of class) (omega arith) (omega arith)
    (sized-methods rows _ _ _ _ class.virtuals (sized-methods rows _ _ _ _ class.directs
    (sized-fields rows _ _ _ _ class.instances (sized-fields rows _ _ _ _ class.statics (sized-name rows class c n x h)))))

sized-classes : (rows : Rows) (c n : ℕ) (x : Members) (classes : List ClassContent) → IsSized x c n
    → IsSized (fold (with_class rows) x classes) (c + length classes) (n + sum_by members_of classes)
sized-classes rows c n x [] h = sized-weaker _ c (c + 0) n (n + 0) (omega arith) (omega arith) h
sized-classes rows c n x (class ∷ more) h =
    let both : sum_by members_of (class ∷ more) ≡ members_of class + sum_by members_of more = sum_by-cons members_of class more in
    sized-weaker _ (c + 1 + length more) (c + length (class ∷ more)) (n + members_of class + sum_by members_of more) (n + sum_by members_of (class ∷ more)) (omega arith) (omega (arith, both))
    (sized-classes rows (c + 1) (n + members_of class) _ more (sized-class rows c n x class h))

sized-file : (seen : Seen) (c n : ℕ) (x : Members) (file : FileContent) → IsSmall file → IsSized x c n → IsSized (with_file seen x file) (c + 8388608) (n + 1048576)
unfolding with_file
sized-file seen c n x file small h =
    sized-weaker _ (c + length file.classes) (c + 8388608) (n + sum_by members_of file.classes) (n + 1048576)
    (let few = small.short.classes in omega arith) (let few = small.members in omega arith)
    (sized-classes (rows_of seen file) c n x file.classes h)

sized-files : (seen : Seen) (c n : ℕ) (x : Members) (files : List FileContent) → All IsSmall files → IsSized x c n
    → IsSized (fold (with_file seen) x files) (c + 8388608 * length files) (n + 1048576 * length files)
sized-files seen c n x [] small h = sized-weaker _ c (c + 8388608 * 0) n (n + 1048576 * 0) (omega arith) (omega arith) h
sized-files seen c n x (file ∷ more) small h =
    let few = small_more _ file more refl small in
    sized-weaker _ (c + 8388608 + 8388608 * length more) (c + 8388608 * length (file ∷ more)) (n + 1048576 + 1048576 * length more) (n + 1048576 * length (file ∷ more)) (omega arith) (omega arith)
    (sized-files seen (c + 8388608) (n + 1048576) _ more few.1 (sized-file seen c n x file few.0 h))

sized-all : (seen : Seen) (files : List FileContent) → AreSmall files → IsSized (members_in seen files) 134217728 16777216
unfolding members_in
sized-all seen files small =
    let count = small.count in
    sized-weaker _ (0 + 8388608 * length files) 134217728 (0 + 1048576 * length files) 16777216 (omega arith) (omega arith)
    (sized-files seen 0 0 no_members files small.each (record { classes = omega arith; members = omega arith; code = refl; operands = refl }))

-- two lists that look alike look alike at each place
at_each : {A B : Type 0} (f : A → ℕ) (g : B → ℕ) (xs : List A) (ys : List B) (i : ℕ) (d : A) (e : B) → f d ≡ g e → map f xs ≡ map g ys → f (get_or xs i d) ≡ g (get_or ys i e)
at_each f g [] [] i d e past alike = past
at_each f g [] (y ∷ ys) i d e past alike = absurd (let no : ⊥ = cc in no)
at_each f g (x ∷ xs) [] i d e past alike = absurd (let no : ⊥ = cc in no)
at_each f g (x ∷ xs) (y ∷ ys) zero d e past alike = cc
at_each f g (x ∷ xs) (y ∷ ys) (suc i) d e past alike = at_each f g xs ys i d e past cc

same_length : {A B : Type 0} (f : A → ℕ) (g : B → ℕ) (xs : List A) (ys : List B) → map f xs ≡ map g ys → length xs ≡ length ys
same_length f g xs ys alike = sym (length-map xs f) ∙ ap length alike ∙ length-map ys g

-- the application of small files
pub is_app : (files : List FileContent) → AreSmall files → length (seen_in files).types ≤ 134217728 → length (seen_in files).names ≤ 134217728
    → length (seen_in files).protos ≤ 134217728 → length (linked files).locks ≤ 64 → IsApp (linked files)
unfolding linked places_of
is_app files small types names protos locks =
    let seen = seen_in files in
    let x = members_in seen files in
    let sized = sized-all seen files small in record {
      types = omega arith;
      names = omega arith;
      protos = let same = length-map seen.protos proto_row in omega arith;
      classes = let few = sized.classes in omega arith;
      methods = let few = sized.members in omega arith;
      fields = let few = sized.members in omega arith;
      locks = locks;
      code = sized.code;
      operands = same_length _ _ x.operands x.code sized.operands ∙ sized.code;
      each = λ m below. at_each (λ (ops : List Operand). length ops) (λ (body : BodyRows). length body.places) x.operands x.code m [] no_body refl sized.operands;
    }

-- so many fields, and so many classes
pub few_fields : (seen : Seen) (files : List FileContent) → AreSmall files → length (members_in seen files).fields < 2 ^ 32
few_fields seen files small = let few = (sized-all seen files small).members in omega arith

pub few_classes : (seen : Seen) (files : List FileContent) → AreSmall files → length (members_in seen files).classes < 2 ^ 32
few_classes seen files small = let few = (sized-all seen files small).classes in omega arith

pub fields-few : (seen : Seen) (files : List FileContent) (x : Members) → AreSmall files → x ≡ members_in seen files → length x.fields < 2 ^ 32
fields-few seen files x small is = subst (λ (m : Members). length m.fields < 2 ^ 32) (sym is) (few_fields seen files small)

pub classes-few : (seen : Seen) (files : List FileContent) (x : Members) (rows : AppParts) → AreSmall files → x ≡ members_in seen files → rows ≡ app_of seen x → length rows.classes < 2 ^ 32
classes-few seen files x rows small is are =
    subst (λ (r : AppParts). length r.classes < 2 ^ 32) (sym are) (subst (λ (m : Members). length m.classes < 2 ^ 32) (sym is) (few_classes seen files small))

joined : (files : List FileContent) (seen : Seen) (x : Members) (rows : AppParts) → seen ≡ seen_in files → x ≡ members_in seen files → rows ≡ app_of seen x → rows ≡ linked files
unfolding linked
joined files seen x rows sees is are = are ∙ ap (app_of seen) is ∙ ap (λ s. app_of s (members_in s files)) sees

pub app-sound : (files : List FileContent) (seen : Seen) (x : Members) (rows : AppParts) → AreSmall files → seen ≡ seen_in files → x ≡ members_in seen files
    → length seen.types ≤ 134217728 → length seen.names ≤ 134217728 → length seen.protos ≤ 134217728 → rows ≡ app_of seen x → length rows.locks ≤ 64 → IsApp rows
app-sound files seen x rows small sees is types names protos are locks =
    let all = joined files seen x rows sees is are in
    subst IsApp (sym all) (is_app files small (subst (λ (s : Seen). length s.types ≤ 134217728) sees types) (subst (λ (s : Seen). length s.names ≤ 134217728) sees names)
    (subst (λ (s : Seen). length s.protos ≤ 134217728) sees protos) (subst (λ (r : AppParts). length r.locks ≤ 64) all locks))
