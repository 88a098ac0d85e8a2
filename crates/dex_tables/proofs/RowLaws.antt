-- A row is read exactly where it is sound, within the limits, and then as what it says by offsets.
use Rattle.std.proofs.Common.{◌≡◌, ◌≢◌, ℕ, ◌+◌, ◌<◌, ◌≤◌, List, length, Option, Some, None, Result, Ok, refl, sym, ap, ◌∙◌, inl, inr, ◌⊎◌, eq-eqb}
use Rattle.std.proofs.lemmas.Bool.{cases_eq, ne_eqb}
use Rattle.dex_bytes.specs.declared.fault.DexFault.{DexFault}
use Rattle.dex_bytes.specs.Header.{header_of}
use Rattle.dex_tables.specs.declared.tables.Slice.{Slice}
use Rattle.dex_tables.specs.declared.tables.ProtoId.{ProtoId}
use Rattle.dex_tables.specs.declared.tables.FieldId.{FieldId}
use Rattle.dex_tables.specs.declared.tables.MethodId.{MethodId}
use Rattle.dex_tables.specs.declared.tables.ClassDef.{ClassDef}
use Rattle.dex_tables.specs.Content.{params_before, interfaces_before, string_slice, proto_id, field_id, method_id, class_def, parent_or_none}
use Rattle.dex_tables.specs.Reading.{◌>>=◌, named, list_at, parent_at, string_in, type_in, proto_in, field_in, method_in, class_in, proto_at, class_at}
use Rattle.dex_tables.specs.Rows.{string_count, type_count, proto_count, string_data, string_units, string_text, type_string, proto_shorty, proto_result, proto_params, field_class, field_type, field_name, method_class, method_proto, method_name, class_type, class_flags, class_parent, no_parent, class_interfaces, class_data, list_size}
use Rattle.dex_tables.specs.Sound.{sum_below, IsSoundString, IsSoundType, IsSoundProto, IsSoundField, IsSoundMethod, IsSoundClass}
use Rattle.dex_tables.proofs.Chains.{ok_is, bind_ok, named_ok, named_again, three_ok}
use Rattle.dex_tables.proofs.Pieces.{string_ok, string_again, list_ok, list_again}

-- how many bytes of strings come before string i
abbrev pub strings_before : List ℕ → ℕ → ℕ
strings_before bs i = sum_below (λ j. length (string_text bs j)) i

pub string_in_ok : (bs : List ℕ) (i : ℕ) (x : Slice) → string_in bs (header_of bs) i ≡ Ok x → (x ≡ string_slice bs i) × (IsSoundString bs i × (strings_before bs i + length (string_text bs i) ≤ 67108864))
unfolding string_data string_units string_text
string_in_ok bs i x e =
    let read = string_ok bs (strings_before bs i) (string_data bs i) x e in
    (read.is, (record { number = read.number; closed = read.closed; spelled = read.spelled }, read.limit))

pub string_in_again : (bs : List ℕ) (i : ℕ) → IsSoundString bs i → strings_before bs i + length (string_text bs i) ≤ 67108864 → string_in bs (header_of bs) i ≡ Ok (string_slice bs i)
unfolding string_data string_units string_text
string_in_again bs i sound limit = string_again bs (strings_before bs i) (string_data bs i) sound.number sound.closed sound.spelled limit

pub type_in_ok : (bs : List ℕ) (t x : ℕ) → type_in bs (header_of bs) t ≡ Ok x → (x ≡ type_string bs t) × IsSoundType bs t
unfolding type_string
type_in_ok bs t x e = named_ok 1 t (string_count bs) (type_string bs t) x e

pub type_in_again : (bs : List ℕ) (t : ℕ) → IsSoundType bs t → type_in bs (header_of bs) t ≡ Ok (type_string bs t)
unfolding type_string
type_in_again bs t sound = named_again 1 t (string_count bs) (type_string bs t) sound

abbrev proto_made : ℕ → ℕ → Slice → ProtoId
proto_made shorty gives params = record { shorty = shorty; result = gives; params = params }

proto_same : (a b c d : ℕ) (s t : Slice) → a ≡ b → c ≡ d → s ≡ t → proto_made a c s ≡ proto_made b d t
proto_same a b c d s t p q r = rw (p, q, r) refl

pub proto_in_ok : (bs : List ℕ) (p : ℕ) (x : ProtoId) → proto_in bs (header_of bs) p ≡ Ok x → (x ≡ proto_id bs p) × (IsSoundProto bs p × ((list_size bs (proto_params bs p) ≡ 0) ⊎ (params_before bs p + list_size bs (proto_params bs p) ≤ 4194304)))
unfolding proto_at proto_shorty proto_result proto_params
proto_in_ok bs p x e =
    let three = three_ok (named 2 p (string_count bs) (proto_shorty bs p)) (named 2 p (type_count bs) (proto_result bs p)) (list_at bs 2 p (type_count bs) (params_before bs p) (proto_params bs p)) proto_made x e in
    let shorty = named_ok 2 p (string_count bs) (proto_shorty bs p) three.u three.is_u in
    let gives = named_ok 2 p (type_count bs) (proto_result bs p) three.v three.is_v in
    let params = list_ok bs 2 p (params_before bs p) (proto_params bs p) three.w three.is_w in (
      sym three.makes ∙ proto_same _ _ _ _ _ _ shorty.0 gives.0 params.is,
      (record { shorty = shorty.1; gives = gives.1; params = params.sound }, params.limit),
    )

pub proto_in_again : (bs : List ℕ) (p : ℕ) → IsSoundProto bs p → params_before bs p + list_size bs (proto_params bs p) ≤ 4194304 → proto_in bs (header_of bs) p ≡ Ok (proto_id bs p)
unfolding proto_at proto_shorty proto_result proto_params
proto_in_again bs p sound limit =
    let shorty = named_again 2 p (string_count bs) (proto_shorty bs p) sound.shorty in
    let gives = named_again 2 p (type_count bs) (proto_result bs p) sound.gives in
    let params = list_again bs 2 p (params_before bs p) (proto_params bs p) sound.params limit in
    rw (shorty, gives, params) refl

abbrev field_made : ℕ → ℕ → ℕ → FieldId
field_made owner kind name = record { class = owner; kind = kind; name = name }

field_same : (a b c d m n : ℕ) → a ≡ b → c ≡ d → m ≡ n → field_made a c m ≡ field_made b d n
field_same a b c d m n p q r = rw (p, q, r) refl

pub field_in_ok : (bs : List ℕ) (f : ℕ) (x : FieldId) → field_in bs (header_of bs) f ≡ Ok x → (x ≡ field_id bs f) × IsSoundField bs f
unfolding field_in field_class field_type field_name
field_in_ok bs f x e =
    let three = three_ok (named 3 f (type_count bs) (field_class bs f)) (named 3 f (type_count bs) (field_type bs f)) (named 3 f (string_count bs) (field_name bs f)) field_made x e in
    let owner = named_ok 3 f (type_count bs) (field_class bs f) three.u three.is_u in
    let kind = named_ok 3 f (type_count bs) (field_type bs f) three.v three.is_v in
    let name = named_ok 3 f (string_count bs) (field_name bs f) three.w three.is_w in
    (sym three.makes ∙ field_same _ _ _ _ _ _ owner.0 kind.0 name.0, record { owner = owner.1; kind = kind.1; name = name.1 })

pub field_in_again : (bs : List ℕ) (f : ℕ) → IsSoundField bs f → field_in bs (header_of bs) f ≡ Ok (field_id bs f)
unfolding field_in field_class field_type field_name
field_in_again bs f sound =
    let owner = named_again 3 f (type_count bs) (field_class bs f) sound.owner in
    let kind = named_again 3 f (type_count bs) (field_type bs f) sound.kind in
    let name = named_again 3 f (string_count bs) (field_name bs f) sound.name in
    rw (owner, kind, name) refl

abbrev method_made : ℕ → ℕ → ℕ → MethodId
method_made owner proto name = record { class = owner; proto = proto; name = name }

method_same : (a b c d m n : ℕ) → a ≡ b → c ≡ d → m ≡ n → method_made a c m ≡ method_made b d n
method_same a b c d m n p q r = rw (p, q, r) refl

pub method_in_ok : (bs : List ℕ) (m : ℕ) (x : MethodId) → method_in bs (header_of bs) m ≡ Ok x → (x ≡ method_id bs m) × IsSoundMethod bs m
unfolding method_in method_class method_proto method_name
method_in_ok bs m x e =
    let three = three_ok (named 4 m (type_count bs) (method_class bs m)) (named 4 m (proto_count bs) (method_proto bs m)) (named 4 m (string_count bs) (method_name bs m)) method_made x e in
    let owner = named_ok 4 m (type_count bs) (method_class bs m) three.u three.is_u in
    let proto = named_ok 4 m (proto_count bs) (method_proto bs m) three.v three.is_v in
    let name = named_ok 4 m (string_count bs) (method_name bs m) three.w three.is_w in
    (sym three.makes ∙ method_same _ _ _ _ _ _ owner.0 proto.0 name.0, record { owner = owner.1; proto = proto.1; name = name.1 })

pub method_in_again : (bs : List ℕ) (m : ℕ) → IsSoundMethod bs m → method_in bs (header_of bs) m ≡ Ok (method_id bs m)
unfolding method_in method_class method_proto method_name
method_in_again bs m sound =
    let owner = named_again 4 m (type_count bs) (method_class bs m) sound.owner in
    let proto = named_again 4 m (proto_count bs) (method_proto bs m) sound.proto in
    let name = named_again 4 m (string_count bs) (method_name bs m) sound.name in
    rw (owner, proto, name) refl

abbrev no_type : Option ℕ
no_type = None

abbrev some_type : ℕ → Result (Option ℕ) DexFault
some_type parent = Ok (Some parent)

abbrev no_parent_read : Result (Option ℕ) DexFault
no_parent_read = Ok None

parent_ok : (c types n : ℕ) (x : Option ℕ) → parent_at c types n ≡ Ok x → (x ≡ parent_or_none n) × (n ≢ no_parent → n < types)
parent_ok c types n x e =
    elim (cases_eq n no_parent) [
      | inl none ↦
          let read : no_parent_read ≡ Ok x = rw (eq-eqb n no_parent none) at e in
          (rw (eq-eqb n no_parent none) (sym (ok_is no_type x read)), λ some. absurd (some none))
      | inr some ↦
          let read : (named 5 c types n >>= some_type) ≡ Ok x = rw (ne_eqb n no_parent some) at e in
          let b = bind_ok (named 5 c types n) some_type x read in
          let is = named_ok 5 c types n b.0 b.1 in
          (rw (ne_eqb n no_parent some) (sym (ok_is (Some b.0) x b.2) ∙ ap (λ (m : ℕ). Some m) is.0), λ _. is.1)
    ]

parent_again : (c types n : ℕ) → (n ≢ no_parent → n < types) → parent_at c types n ≡ Ok (parent_or_none n)
parent_again c types n sound =
    elim (cases_eq n no_parent) [
      | inl none ↦ rw (eq-eqb n no_parent none) refl
      | inr some ↦ rw (ne_eqb n no_parent some, named_again 5 c types n (sound some)) refl
    ]

abbrev class_made : ℕ → ℕ → ℕ → Option ℕ → Slice → ClassDef
class_made flags members itself parent interfaces = record { class = itself; flags = flags; parent = parent; interfaces = interfaces; members = members }

class_same : (flags members a b : ℕ) (c d : Option ℕ) (s t : Slice) → a ≡ b → c ≡ d → s ≡ t → class_made flags members a c s ≡ class_made flags members b d t
class_same flags members a b c d s t p q r = rw (p, q, r) refl

pub class_in_ok : (bs : List ℕ) (c : ℕ) (x : ClassDef) → class_in bs (header_of bs) c ≡ Ok x → (x ≡ class_def bs c) × (IsSoundClass bs c × ((list_size bs (class_interfaces bs c) ≡ 0) ⊎ (interfaces_before bs c + list_size bs (class_interfaces bs c) ≤ 4194304)))
unfolding class_at class_type class_flags class_parent class_interfaces class_data proto_params
class_in_ok bs c x e =
    let made = class_made (class_flags bs c) (class_data bs c) in
    let three = three_ok (named 5 c (type_count bs) (class_type bs c)) (parent_at c (type_count bs) (class_parent bs c)) (list_at bs 5 c (type_count bs) (interfaces_before bs c) (class_interfaces bs c)) made x e in
    let itself = named_ok 5 c (type_count bs) (class_type bs c) three.u three.is_u in
    let parent = parent_ok c (type_count bs) (class_parent bs c) three.v three.is_v in
    let interfaces = list_ok bs 5 c (interfaces_before bs c) (class_interfaces bs c) three.w three.is_w in (
      sym three.makes ∙ class_same _ _ _ _ _ _ _ _ itself.0 parent.0 interfaces.is,
      (record { itself = itself.1; parent = parent.1; interfaces = interfaces.sound }, interfaces.limit),
    )

pub class_in_again : (bs : List ℕ) (c : ℕ) → IsSoundClass bs c → interfaces_before bs c + list_size bs (class_interfaces bs c) ≤ 4194304 → class_in bs (header_of bs) c ≡ Ok (class_def bs c)
unfolding class_at class_type class_flags class_parent class_interfaces class_data proto_params
class_in_again bs c sound limit =
    let itself = named_again 5 c (type_count bs) (class_type bs c) sound.itself in
    let parent = parent_again c (type_count bs) (class_parent bs c) sound.parent in
    let interfaces = list_again bs 5 c (interfaces_before bs c) (class_interfaces bs c) sound.interfaces limit in
    rw (itself, parent, interfaces) refl
