-- The reading gives exactly the tables that say by offsets what the file says, where each row is sound.
use Rattle.std.proofs.Common.{◌≡◌, ℕ, suc, ◌+◌, ◌<◌, ◌≤◌, List, ◌++◌, length, take, drop, get_or, Result, Ok, Err, refl, sym, ap, subst, arith, ◌∙◌, inl, inr, ◌⊎◌, length-take-le, length-drop, get_or-drop}
use Rattle.std.proofs.lemmas.List.{length-append, get_or_append_left, get_or-append-add, get_or-take, take-append-drop}
use Rattle.std.specs.Prelude.{IfOk}
use Rattle.dex_bytes.specs.declared.fault.DexFault.{DexFault}
use Rattle.dex_bytes.specs.Header.{header_of}
use Rattle.dex_tables.specs.declared.tables.Slice.{Slice}
use Rattle.dex_tables.specs.declared.tables.ProtoId.{ProtoId}
use Rattle.dex_tables.specs.declared.tables.FieldId.{FieldId}
use Rattle.dex_tables.specs.declared.tables.MethodId.{MethodId}
use Rattle.dex_tables.specs.declared.tables.ClassDef.{ClassDef}
use Rattle.dex_tables.specs.Content.{IdTables, params_before, interfaces_before, string_slice, proto_id, field_id, method_id, class_def, AreRows, AreLists, AreTablesOf}
use Rattle.dex_tables.specs.Reading.{IsReading, rows_below, list_below, joined_below, list_entries, table_at, string_in, type_in, proto_in, field_in, method_in, class_in, tables_in, tables_at}
use Rattle.dex_tables.specs.Rows.{string_count, type_count, proto_count, field_count, method_count, class_count, string_text, type_string, proto_params, class_interfaces, list_size, list_entry}
use Rattle.dex_tables.specs.Sound.{sum_below, string_total, list_total, IsSoundString, IsSoundType, IsSoundProto, IsSoundField, IsSoundMethod, IsSoundClass, AreSoundTables}
use Rattle.dex_tables.proofs.Chains.{six_ok}
use Rattle.dex_tables.proofs.RowLaws.{strings_before, string_in_ok, string_in_again, type_in_ok, type_in_again, proto_in_ok, proto_in_again, field_in_ok, field_in_again, method_in_ok, method_in_again, class_in_ok, class_in_again}
use Rattle.dex_tables.proofs.Sums.{sum_below-le}
use Rattle.dex_tables.proofs.Whole.{table_ok, table_again, rows_ok, rows_again, length-list_below, list_below-get, are_rows, rows_are, length-joined, joined-get, joined_are, sum_within}

-- how long the list at each prototype and class is
abbrev params_len : List ℕ → ℕ → ℕ
params_len bs p = list_size bs (proto_params bs p)

abbrev interfaces_len : List ℕ → ℕ → ℕ
interfaces_len bs c = list_size bs (class_interfaces bs c)

abbrev params_list : List ℕ → ℕ → List ℕ
params_list bs p = list_entries bs (proto_params bs p)

abbrev interfaces_list : List ℕ → ℕ → List ℕ
interfaces_list bs c = list_entries bs (class_interfaces bs c)

abbrev all_lists : List ℕ → List ℕ
all_lists bs = joined_below (params_list bs) (proto_count bs) ++ joined_below (interfaces_list bs) (class_count bs)

length-params : (bs : List ℕ) (p : ℕ) → length (params_list bs p) ≡ params_len bs p
length-params bs p = length-list_below (list_entry bs (proto_params bs p)) (params_len bs p)

length-interfaces : (bs : List ℕ) (c : ℕ) → length (interfaces_list bs c) ≡ interfaces_len bs c
length-interfaces bs c = length-list_below (list_entry bs (class_interfaces bs c)) (interfaces_len bs c)

within_sum : (f : ℕ → ℕ) (i n : ℕ) → i < n → sum_below f i + f i ≤ sum_below f n
within_sum f i n low = let next : sum_below f (i + 1) ≤ sum_below f n = sum_below-le f (i + 1) n (omega arith) in let e : i + 1 ≡ suc i = omega arith in omega (arith, next, ap (sum_below f) e)

are_lists : (bs : List ℕ) → AreLists bs (all_lists bs)
are_lists bs =
    let front = joined_below (params_list bs) (proto_count bs) in
    let back = joined_below (interfaces_list bs) (class_count bs) in
    let front_len : length front ≡ params_before bs (proto_count bs) = length-joined (params_list bs) (params_len bs) (proto_count bs) (length-params bs) in
    let back_len : length back ≡ sum_below (interfaces_len bs) (class_count bs) = length-joined (interfaces_list bs) (interfaces_len bs) (class_count bs) (length-interfaces bs) in
    let all : length (front ++ back) ≡ length front + length back = length-append front back in
    record {
      count = omega (arith, all, front_len, back_len);
      params = λ p k d low within.
          get_or_append_left front back d (params_before bs p + k) (omega (arith, front_len, within_sum (params_len bs) p (proto_count bs) low, within))
          ∙ joined-get (params_list bs) (params_len bs) (proto_count bs) p k d (length-params bs) low within
          ∙ list_below-get (list_entry bs (proto_params bs p)) (params_len bs p) k d within;
      interfaces = λ c k d low within.
          (let place : interfaces_before bs c + k ≡ length front + (sum_below (interfaces_len bs) c + k) = omega (arith, front_len) in ap (λ (j : ℕ). get_or (front ++ back) j d) place)
          ∙ get_or-append-add front back (sum_below (interfaces_len bs) c + k) d
          ∙ joined-get (interfaces_list bs) (interfaces_len bs) (class_count bs) c k d (length-interfaces bs) low within
          ∙ list_below-get (list_entry bs (class_interfaces bs c)) (interfaces_len bs c) k d within;
      params_end = λ p low. omega (arith, all, front_len, within_sum (params_len bs) p (proto_count bs) low);
      interfaces_end = λ c low. omega (arith, all, front_len, back_len, within_sum (interfaces_len bs) c (class_count bs) low);
    }

lists_are : (bs xs : List ℕ) → AreLists bs xs → xs ≡ all_lists bs
lists_are bs xs are =
    let m = params_before bs (proto_count bs) in
    let count : length xs ≡ list_total bs = are.count in
    let front_len : length (take m xs) ≡ m = length-take-le m xs (omega (arith, count)) in
    let back_len : length (drop m xs) ≡ sum_below (interfaces_len bs) (class_count bs) = omega (arith, length-drop m xs, count) in
    let front : take m xs ≡ joined_below (params_list bs) (proto_count bs) = joined_are (params_list bs) (params_len bs) (proto_count bs) (take m xs) (length-params bs) front_len
    (λ p k d low within. get_or-take m xs (params_before bs p + k) d (omega (arith, within_sum (params_len bs) p (proto_count bs) low, within)) ∙ are.params p k d low within ∙ sym (list_below-get (list_entry bs (proto_params bs p)) (params_len bs p) k d within)) in
    let back : drop m xs ≡ joined_below (interfaces_list bs) (class_count bs) = joined_are (interfaces_list bs) (interfaces_len bs) (class_count bs) (drop m xs) (length-interfaces bs) back_len
    (λ c k d low within. get_or-drop m xs (sum_below (interfaces_len bs) c + k) d
    ∙ (let place : m + (sum_below (interfaces_len bs) c + k) ≡ interfaces_before bs c + k = omega arith in ap (λ (j : ℕ). get_or xs j d) place)
    ∙ are.interfaces c k d low within ∙ sym (list_below-get (list_entry bs (class_interfaces bs c)) (interfaces_len bs c) k d within)) in
    sym (take-append-drop m xs) ∙ rw (front, back) refl

-- what each table says of its rows
abbrev IsReadString : List ℕ → ℕ → Type 0
IsReadString bs i = IsSoundString bs i × (strings_before bs i + length (string_text bs i) ≤ 67108864)

abbrev IsReadProto : List ℕ → ℕ → Type 0
IsReadProto bs p = IsSoundProto bs p × ((params_len bs p ≡ 0) ⊎ (params_before bs p + params_len bs p ≤ 4194304))

abbrev IsReadClass : List ℕ → ℕ → Type 0
IsReadClass bs c = IsSoundClass bs c × ((interfaces_len bs c ≡ 0) ⊎ (interfaces_before bs c + interfaces_len bs c ≤ 4194304))

abbrev made : List Slice → List ℕ → List ProtoId → List FieldId → List MethodId → List ClassDef → List ℕ → IdTables
made strings types protos fields methods classes lists = record { strings = strings; types = types; protos = protos; fields = fields; methods = methods; classes = classes; lists = lists }

rows_of : {T : Type 0} (rows : List T) (n : ℕ) (g : ℕ → T) → rows ≡ list_below g n → AreRows rows n g
rows_of rows n g e = subst (λ rs. AreRows rs n g) (sym e) (are_rows g n)

pub reading_is : (bs : List ℕ) (tables : IdTables) → 112 ≤ length bs → tables_at bs ≡ Ok tables → AreTablesOf bs tables
unfolding tables_in proto_params class_interfaces
reading_is bs tables whole e =
    let head = header_of bs in
    let six = six_ok
    (table_at bs 0 head.strings 4 (string_in bs head))
    (table_at bs 1 head.types 4 (type_in bs head))
    (table_at bs 2 head.protos 12 (proto_in bs head))
    (table_at bs 3 head.fields 8 (field_in bs head))
    (table_at bs 4 head.methods 8 (method_in bs head))
    (table_at bs 5 head.classes 32 (class_in bs head))
    (λ u v w p q r. made u v w p q r (all_lists bs)) tables e in
    let t0 = table_ok bs 0 head.strings 4 (string_in bs head) six.u six.is_u in
    let t1 = table_ok bs 1 head.types 4 (type_in bs head) six.v six.is_v in
    let t2 = table_ok bs 2 head.protos 12 (proto_in bs head) six.w six.is_w in
    let t3 = table_ok bs 3 head.fields 8 (field_in bs head) six.p six.is_p in
    let t4 = table_ok bs 4 head.methods 8 (method_in bs head) six.q six.is_q in
    let t5 = table_ok bs 5 head.classes 32 (class_in bs head) six.r six.is_r in
    let r0 = rows_ok (string_in bs head) (string_slice bs) (IsReadString bs) (string_count bs) six.u (λ i x low is. string_in_ok bs i x is) t0.1 in
    let r1 = rows_ok (type_in bs head) (type_string bs) (IsSoundType bs) (type_count bs) six.v (λ i x low is. type_in_ok bs i x is) t1.1 in
    let r2 = rows_ok (proto_in bs head) (proto_id bs) (IsReadProto bs) (proto_count bs) six.w (λ i x low is. proto_in_ok bs i x is) t2.1 in
    let r3 = rows_ok (field_in bs head) (field_id bs) (IsSoundField bs) (field_count bs) six.p (λ i x low is. field_in_ok bs i x is) t3.1 in
    let r4 = rows_ok (method_in bs head) (method_id bs) (IsSoundMethod bs) (method_count bs) six.q (λ i x low is. method_in_ok bs i x is) t4.1 in
    let r5 = rows_ok (class_in bs head) (class_def bs) (IsReadClass bs) (class_count bs) six.r (λ i x low is. class_in_ok bs i x is) t5.1 in
    let strings : 0 + string_total bs ≤ 67108864 = sum_within (λ i. length (string_text bs i)) 0 67108864 (string_count bs) (omega arith) (λ i low. inr (omega (arith, (r0.1 i low).1))) in
    let params : 0 + params_before bs (proto_count bs) ≤ 4194304 = sum_within (params_len bs) 0 4194304 (proto_count bs) (omega arith)
    (λ p low. elim (r2.1 p low).1 [ inl none ↦ inl none | inr some ↦ inr (omega (arith, some)) ]) in
    let lists : list_total bs ≤ 4194304 = sum_within (interfaces_len bs) (params_before bs (proto_count bs)) 4194304 (class_count bs) (omega (arith, params)) (λ c low. (r5.1 c low).1) in
    let sound : AreSoundTables bs = record {
      in_file = record { header = whole; strings = t0.0; types = t1.0; protos = t2.0; fields = t3.0; methods = t4.0; classes = t5.0 };
      strings = λ i low. (r0.1 i low).0;
      types = r1.1;
      protos = λ p low. (r2.1 p low).0;
      fields = r3.1;
      methods = r4.1;
      classes = λ c low. (r5.1 c low).0;
      string_limit = omega (arith, strings);
      list_limit = lists;
    } in
    subst (AreTablesOf bs) six.makes (record {
      sound = sound;
      strings = rows_of six.u (string_count bs) (string_slice bs) r0.0;
      types = rows_of six.v (type_count bs) (type_string bs) r1.0;
      protos = rows_of six.w (proto_count bs) (proto_id bs) r2.0;
      fields = rows_of six.p (field_count bs) (field_id bs) r3.0;
      methods = rows_of six.q (method_count bs) (method_id bs) r4.0;
      classes = rows_of six.r (class_count bs) (class_def bs) r5.0;
      lists = are_lists bs;
    })

table_is : {T : Type 0} (bs : List ℕ) (rows : List T) (n : ℕ) (g : ℕ → T) (f : ℕ → Result T DexFault) → AreRows rows n g → ((i : ℕ) → i < n → f i ≡ Ok (g i)) → rows_below f n ≡ Ok rows
table_is bs rows n g f are each = rows_again f g n each ∙ ap (λ rs. let r : Result (List _) DexFault = Ok rs in r) (sym (rows_are g n rows are))

pub is_reading : (bs : List ℕ) (tables : IdTables) → AreTablesOf bs tables → tables_at bs ≡ Ok tables
unfolding tables_in proto_params class_interfaces
is_reading bs tables are =
    let head = header_of bs in
    let sound = are.sound in
    let t0 = table_again bs 0 head.strings 4 (string_in bs head) tables.strings sound.in_file.strings (table_is bs tables.strings (string_count bs) (string_slice bs) (string_in bs head) are.strings
    (λ i low. string_in_again bs i (sound.strings i low) (omega (arith, sound.string_limit, within_sum (λ j. length (string_text bs j)) i (string_count bs) low)))) in
    let t1 = table_again bs 1 head.types 4 (type_in bs head) tables.types sound.in_file.types (table_is bs tables.types (type_count bs) (type_string bs) (type_in bs head) are.types
    (λ t low. type_in_again bs t (sound.types t low))) in
    let t2 = table_again bs 2 head.protos 12 (proto_in bs head) tables.protos sound.in_file.protos (table_is bs tables.protos (proto_count bs) (proto_id bs) (proto_in bs head) are.protos
    (λ p low. proto_in_again bs p (sound.protos p low) (omega (arith, sound.list_limit, within_sum (params_len bs) p (proto_count bs) low)))) in
    let t3 = table_again bs 3 head.fields 8 (field_in bs head) tables.fields sound.in_file.fields (table_is bs tables.fields (field_count bs) (field_id bs) (field_in bs head) are.fields
    (λ f low. field_in_again bs f (sound.fields f low))) in
    let t4 = table_again bs 4 head.methods 8 (method_in bs head) tables.methods sound.in_file.methods (table_is bs tables.methods (method_count bs) (method_id bs) (method_in bs head) are.methods
    (λ m low. method_in_again bs m (sound.methods m low))) in
    let t5 = table_again bs 5 head.classes 32 (class_in bs head) tables.classes sound.in_file.classes (table_is bs tables.classes (class_count bs) (class_def bs) (class_in bs head) are.classes
    (λ c low. class_in_again bs c (sound.classes c low) (omega (arith, sound.list_limit, within_sum (interfaces_len bs) c (class_count bs) low)))) in
    let lists : all_lists bs ≡ tables.lists = sym (lists_are bs tables.lists are.lists) in
    rw (t0, t1, t2, t3, t4, t5, lists) refl

pub content_read : (bs : List ℕ) (r : Result IdTables DexFault) → 112 ≤ length bs → IsReading r (tables_at bs) → IfOk r (λ tables. AreTablesOf bs tables)
content_read bs (Ok tables) whole e = reading_is bs tables whole e
content_read bs (Err fault) whole e = tt
