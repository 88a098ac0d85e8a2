-- The tables of a content are the rows of its file, and what they name is there.
use Rattle.std.proofs.Common.{◌≡◌, ℕ, zero, suc, ◌+◌, ◌<◌, ◌≤◌, List, length, map, take, drop, get_or, All, refl, sym, ap, subst, arith, ◌∙◌, length-take-le, length-drop, get_or-drop}
use Rattle.std.proofs.lemmas.List.{length-map, get_or-map, get_or-take}
use Rattle.dex_tables.specs.declared.tables.ProtoId.{ProtoId}
use Rattle.dex_tables.specs.Content.{AreRows, AreLists, params_before, proto_id, field_id, method_id}
use Rattle.dex_tables.specs.Reading.{list_entries}
use Rattle.dex_tables.specs.Rows.{string_count, type_count, proto_count, field_count, method_count, string_text, type_string, proto_shorty, proto_result, proto_params, list_size, list_entry}
use Rattle.dex_tables.specs.Sound.{AreSoundTables, IsSoundList}
use Rattle.dex_tables.proofs.Whole.{rows_are, are_rows}
use Rattle.dex_tables.proofs.Words.{list_size-none}
use Rattle.dex_file.specs.Content.{ProtoContent, FileContent, proto_of, IsContentOf}
use Rattle.dex_file.specs.Sound.{IsType, IsSoundProto, IsSoundField, IsSoundMethod}

-- what a prototype of the file is in its content
abbrev pub proto_said : List ℕ → ℕ → ProtoContent
proto_said bs p = record {
  shorty = proto_shorty bs p;
  result = proto_result bs p;
  params = list_entries bs (proto_params bs p);
}

-- the tables of a content are the rows of the file, and those are sound
pub record AreRowsOf (bs : List ℕ) (file : FileContent) : Type 0 where
  pub sound : AreSoundTables bs
  pub strings : AreRows file.strings (string_count bs) (string_text bs)
  pub types : AreRows file.types (type_count bs) (type_string bs)
  pub protos : AreRows file.protos (proto_count bs) (proto_said bs)
  pub fields : AreRows file.fields (field_count bs) (field_id bs)
  pub methods : AreRows file.methods (method_count bs) (method_id bs)

-- what holds of each row holds of each element
pub all_rows : {T : Type 0} (P : T → Type 0) (rows : List T) (n : ℕ) (row : ℕ → T) → AreRows rows n row
    → ((i : ℕ) → i < n → P (row i)) → All P rows
all_rows P rows n row are each = λ k d low.
    let lt : k < n = omega (arith, low, are.count) in subst P (sym (are.each k d lt)) (each k lt)

pub same_rows : {T : Type 0} (rows more : List T) (n : ℕ) (row : ℕ → T) → rows ≡ more → AreRows more n row → AreRows rows n row
same_rows rows more n row same are = subst (λ xs. AreRows xs n row) (sym same) are

-- a part of the lists is the type list that stands there
pub part_is : (bs lists : List ℕ) (at off : ℕ) → at + list_size bs off ≤ length lists
    → ((k d : ℕ) → k < list_size bs off → get_or lists (at + k) d ≡ list_entry bs off k)
    → take (list_size bs off) (drop at lists) ≡ list_entries bs off
part_is bs lists at off end each =
    let n = list_size bs off in
    rows_are (list_entry bs off) n (take n (drop at lists)) (record {
      count = length-take-le n (drop at lists) (omega (arith, end, length-drop at lists));
      each = λ k d low. get_or-take n (drop at lists) k d low ∙ get_or-drop at lists k d ∙ each k d low;
    })

-- each entry of a sound list is a type
pub entry_type : (bs : List ℕ) (off k : ℕ) → IsSoundList bs off → k < list_size bs off → list_entry bs off k < type_count bs
entry_type bs zero k sound low = absurd (omega (arith, list_size-none bs, low))
entry_type bs (suc o) k sound low = (sound (λ none. absurd (omega (arith, none)))).entries k low

abbrev proto_with : ℕ → ℕ → List ℕ → ProtoContent
proto_with shorty result params = record { shorty = shorty; result = result; params = params }

same_proto : (shorty result : ℕ) (a b : List ℕ) → a ≡ b → proto_with shorty result a ≡ proto_with shorty result b
same_proto shorty result a b same = rw same refl

proto_is : (bs lists : List ℕ) (p : ℕ) → AreLists bs lists → p < proto_count bs → proto_of lists (proto_id bs p) ≡ proto_said bs p
proto_is bs lists p are low =
    same_proto (proto_shorty bs p) (proto_result bs p) _ _ (part_is bs lists (params_before bs p) (proto_params bs p) (are.params_end p low) (λ k d lt. are.params p k d low lt))

protos_are : (bs lists : List ℕ) (rows : List ProtoId) → AreLists bs lists → AreRows rows (proto_count bs) (proto_id bs)
    → AreRows (map (proto_of lists) rows) (proto_count bs) (proto_said bs)
protos_are bs lists rows are protos = record {
  count = length-map rows (proto_of lists) ∙ protos.count;
  each = λ i d low.
      get_or-map (proto_of lists) rows i (proto_id bs i) d (omega (arith, low, protos.count))
      ∙ ap (proto_of lists) (protos.each i (proto_id bs i) low)
      ∙ proto_is bs lists i are low;
}

pub rows_of_file : (bs : List ℕ) (content : FileContent) → IsContentOf bs content → AreRowsOf bs content
rows_of_file bs content is =
    let stand = is.stand in
    let protos = protos_are bs is.tables.lists is.tables.protos stand.lists stand.protos in
    record {
      sound = stand.sound;
      strings = same_rows content.strings _ (string_count bs) (string_text bs) (ap (λ (f : FileContent). f.strings) is.rest) (are_rows (string_text bs) (string_count bs));
      types = same_rows content.types _ (type_count bs) (type_string bs) (ap (λ (f : FileContent). f.types) is.rest) stand.types;
      protos = same_rows content.protos _ (proto_count bs) (proto_said bs) (ap (λ (f : FileContent). f.protos) is.rest) protos;
      fields = same_rows content.fields _ (field_count bs) (field_id bs) (ap (λ (f : FileContent). f.fields) is.rest) stand.fields;
      methods = same_rows content.methods _ (method_count bs) (method_id bs) (ap (λ (f : FileContent). f.methods) is.rest) stand.methods;
    }

-- what is below a count of the file is below the length of its table
pub is_type : (bs : List ℕ) (file : FileContent) → AreRowsOf bs file → (t : ℕ) → t < type_count bs → IsType file t
is_type bs file are t low = omega (arith, low, are.types.count)

is_string : (bs : List ℕ) (file : FileContent) → AreRowsOf bs file → (s : ℕ) → s < string_count bs → s < length file.strings
is_string bs file are s low = omega (arith, low, are.strings.count)

-- each entry of a sound list is a type of the content
pub types_listed : (bs : List ℕ) (file : FileContent) → AreRowsOf bs file → (off : ℕ) → IsSoundList bs off → All (IsType file) (list_entries bs off)
types_listed bs file are off sound =
    all_rows (IsType file) (list_entries bs off) (list_size bs off) (list_entry bs off) (are_rows (list_entry bs off) (list_size bs off))
    (λ k low. is_type bs file are (list_entry bs off k) (entry_type bs off k sound low))

pub sound_types : (bs : List ℕ) (file : FileContent) → AreRowsOf bs file → All (λ s. s < length file.strings) file.types
sound_types bs file are =
    all_rows (λ s. s < length file.strings) file.types (type_count bs) (type_string bs) are.types (λ t low. is_string bs file are (type_string bs t) (are.sound.types t low))

pub sound_protos : (bs : List ℕ) (file : FileContent) → AreRowsOf bs file → All (IsSoundProto file) file.protos
sound_protos bs file are =
    all_rows (IsSoundProto file) file.protos (proto_count bs) (proto_said bs) are.protos
    (λ p low. record {
      shorty = is_string bs file are _ (are.sound.protos p low).shorty;
      result = is_type bs file are (proto_result bs p) (are.sound.protos p low).gives;
      params = types_listed bs file are (proto_params bs p) (are.sound.protos p low).params;
    })

pub sound_fields : (bs : List ℕ) (file : FileContent) → AreRowsOf bs file → All (IsSoundField file) file.fields
sound_fields bs file are =
    all_rows (IsSoundField file) file.fields (field_count bs) (field_id bs) are.fields
    (λ f low. record {
      class = is_type bs file are _ (are.sound.fields f low).owner;
      kind = is_type bs file are _ (are.sound.fields f low).kind;
      name = is_string bs file are _ (are.sound.fields f low).name;
    })

pub sound_methods : (bs : List ℕ) (file : FileContent) → AreRowsOf bs file → All (IsSoundMethod file) file.methods
sound_methods bs file are =
    all_rows (IsSoundMethod file) file.methods (method_count bs) (method_id bs) are.methods
    (λ m low. record {
      class = is_type bs file are _ (are.sound.methods m low).owner;
      proto = omega (arith, (are.sound.methods m low).proto, are.protos.count);
      name = is_string bs file are _ (are.sound.methods m low).name;
    })
