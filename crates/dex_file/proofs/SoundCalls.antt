-- What an instruction names is there, and a call has its arguments.
use Rattle.std.proofs.Common.{◌≡◌, ℕ, zero, suc, ◌+◌, ◌<◌, nat_lt, true, false, Bool, cond, if◌then◌else◌, List, [], length, sum_by, Some, None, slice_get, refl, sym, ap, arith, ◌∙◌}
use Rattle.std.proofs.lemmas.Bool.{eqb-true, ltb-true}
use Rattle.std.proofs.lemmas.List.Sums.{sum_by_push}
use Rattle.std.proofs.lemmas.Option.{slice_get-get_or}
use Rattle.dex_tables.specs.Content.{AreRows, method_id}
use Rattle.dex_tables.specs.Reading.{list_below}
use Rattle.dex_tables.specs.Rows.{string_count, type_count, proto_count, field_count, method_count, type_string, type_name, proto_params, method_proto, list_size, list_entry}
use Rattle.dex_tables.specs.Sound.{sum_below}
use Rattle.dalvik.specs.declared.ins.Ins.{Ins}
use Rattle.dalvik.specs.declared.ins.Ins.TheVariants as ins
use Rattle.dalvik.specs.Descriptors.{words_of}
use Rattle.dalvik.specs.Calls.{args_len, is_static_call}
use Rattle.dalvik.specs.declared.naming.Naming.{Naming}
use Rattle.dalvik.specs.declared.naming.Naming.TheVariants.{Nothing, String, Kind, Field, Method}
use Rattle.dalvik.specs.Naming.{naming_of}
use Rattle.method_graph.specs.Operands.{unless_below, past_table, param_words, params_words, argument_words, has_its_args}
use Rattle.dex_file.specs.Content.{FileContent, type_text, string_in}
use Rattle.dex_file.specs.Sound.{IsThere, params_len, method_len, HasItsArgs, IsSoundIns}
use Rattle.dex_file.proofs.SoundTables.{AreRowsOf, proto_said, entry_type}

-- an element that is a row of a table
pub row_at : {T : Type 0} (rows : List T) (n : ℕ) (row : ℕ → T) (i : ℕ) → AreRows rows n row → i < n → slice_get rows i ≡ Some (row i)
row_at rows n row i are low =
    slice_get-get_or rows i (row i) (omega (arith, low, are.count)) ∙ ap Some (are.each i (row i) low)

-- a number that is not past its table
below : (b : Bool) (n : ℕ) → cond b None (Some n) ≡ None → b ≡ true
below true n h = refl
below false n h = absurd cc

is_below : (rows n len : ℕ) → len ≡ rows → unless_below rows n ≡ None → n < len
is_below rows n len same h = let lt : n < rows = ltb-true n rows (below (nat_lt n rows) n h) in omega (arith, lt, same)

there : (bs : List ℕ) (file : FileContent) → AreRowsOf bs file → (named : Naming) → past_table bs named ≡ None → IsThere file named
there bs file are Nothing h = tt
there bs file are (String s) h = is_below (string_count bs) s (length file.strings) are.strings.count h
there bs file are (Kind t) h = is_below (type_count bs) t (length file.types) are.types.count h
there bs file are (Field f) h = is_below (field_count bs) f (length file.fields) are.fields.count h
there bs file are (Method m) h = is_below (method_count bs) m (length file.methods) are.methods.count h

-- the descriptor of a type is its name
pub type_named : (bs : List ℕ) (file : FileContent) → AreRowsOf bs file → (t : ℕ) → t < type_count bs → type_text file (Some t) ≡ type_name bs t
unfolding type_name
type_named bs file are t low =
    ap (string_in file) (row_at file.types (type_count bs) (type_string bs) t are.types low)
    ∙ are.strings.each (type_string bs t) [] (are.sound.types t low)

-- a sum over a list of so many
sum_listed : (f g h : ℕ → ℕ) (n : ℕ) → ((k : ℕ) → k < n → f (h k) ≡ g k) → sum_by f (list_below h n) ≡ sum_below g n
sum_listed f g h zero each = refl
sum_listed f g h (suc n) each = omega (arith, sum_by_push f (list_below h n) (h n), sum_listed f g h n (λ k low. each k (omega (arith, low))), each n (omega arith))

params_said : (bs : List ℕ) (file : FileContent) → AreRowsOf bs file → (p : ℕ) → p < proto_count bs → params_len file (Some (proto_said bs p)) ≡ params_words bs p
unfolding params_words
params_said bs file are p low =
    let off = proto_params bs p in
    sum_listed (λ (t : ℕ). words_of (type_text file (Some t))) (param_words bs p) (list_entry bs off) (list_size bs off)
    (λ k lt. ap words_of (type_named bs file are (list_entry bs off k) (entry_type bs off k (are.sound.protos p low).params lt)))

-- the parameters of a method take as many registers by the content as by the bytes
pub method_said : (bs : List ℕ) (file : FileContent) → AreRowsOf bs file → (m : ℕ) → m < method_count bs
    → method_len file (slice_get file.methods m) ≡ params_words bs (method_proto bs m)
method_said bs file are m low =
    let p = method_proto bs m in
    let lt : p < proto_count bs = (are.sound.methods m low).proto in
    ap (method_len file) (row_at file.methods (method_count bs) (method_id bs) m are.methods low)
    ∙ ap (params_len file) (row_at file.protos (proto_count bs) (proto_said bs) p are.protos lt)
    ∙ params_said bs file are p lt

has_args : (bs : List ℕ) (file : FileContent) → AreRowsOf bs file → (own : Ins) → IsThere file (naming_of own) → has_its_args bs own ≡ true → HasItsArgs file own
has_args bs file are (ins.Invoke op method arguments) named h =
    let low : method < method_count bs = omega (arith, named, are.methods.count) in
    eqb-true (args_len arguments) (argument_words bs (is_static_call op) method) h
    ∙ ap (λ (n : ℕ). (if is_static_call op then 0 else 1) + n) (sym (method_said bs file are method low))
has_args bs file are own named h = tt

pub sound_ins : (bs : List ℕ) (file : FileContent) → AreRowsOf bs file → (own : Ins) → past_table bs (naming_of own) ≡ None → has_its_args bs own ≡ true → IsSoundIns file own
sound_ins bs file are own named arguments =
    let is = there bs file are (naming_of own) named in
    record { named = is; arguments = has_args bs file are own is arguments }
