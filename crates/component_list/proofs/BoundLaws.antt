-- What holds of the table that a list is bound to.
use Rattle.std.proofs.Common.{◌≡◌, ◌<◌, ◌≤◌, ◌+◌, ◌&&◌, ℕ, zero, suc, Bool, true, false, List, [], ◌∷◌, ◌++◌, length, length-append, map, get_or, Option, Some, None, option_map, option_and_then, slice_get, Result, Ok, Err, arith, refl, sym, ap, ◌∙◌, inl, inr}
use Rattle.std.proofs.lemmas.List.FromFn.{get_or-map-range_with_len, length-map-range_with_len, map-range_with_len_more}
use Rattle.std.proofs.lemmas.List.Quantifiers.{position-Some}
use Rattle.std.specs.List.{range_with_len}
use Rattle.ns_base.specs.declared.rows.MethodNo.{MethodNo}
use Rattle.ns_base.specs.declared.rows.NameNo.{NameNo}
use Rattle.ns_base.specs.declared.rows.ProtoNo.{ProtoNo}
use Rattle.app_model.specs.Components.{BelongsTo, ComponentParts, IsListed, method_in, callback_method, callbacks_of, found_on, name_number, proto_number, prototypes_of}
use Rattle.app_model.specs.Parts.{AppParts, ClassParts}
use Rattle.app_model.specs.declared.component.Kind.{Kind}
use Rattle.app_model.specs.declared.component.Kind.TheVariants.{Receiver}
use Rattle.ns_base.specs.Steps.{◌>>=◌, Unless, rows_below}
use Rattle.ns_base.proofs.StepLaws.{rows_more, rows_stop}
use Rattle.std.proofs.lemmas.Bool.{cases_lt}
use Rattle.std.proofs.lemmas.List.{get_or_append_left}
use Rattle.std.proofs.Math.Seq.{get_or-append_seam}
use Rattle.std.proofs.lemmas.Option.{slice_get-get_or, slice_get_past}
use Rattle.std.proofs.lemmas.Slice.Eq.{bytes_eq-Decides}
use Rattle.app_model.specs.Names.{type_text}
use Rattle.component_list.specs.declared.fault.ListFault.{ListFault}
use Rattle.component_list.specs.Reading.{is_memory}
use Rattle.component_list.specs.declared.fault.ListFault.TheVariants as fault
use Rattle.component_list.specs.Listed.{HasExits, IsReadList, ListedParts}
use Rattle.component_list.proofs.ReadLaws.{bind_ok, else_ok, no_ok, same_ok}
use Rattle.component_list.specs.Binding.{bound_at, bound_of, bound_row, class_or_fault, has_one_callback, is_missing, row_on, as_method, as_name, as_proto, class_named, is_named, methods_on, numbers_at, numbers_of}
use Rattle.component_list.specs.declared.numbers.Callback.{Callback}

-- ---- a class that was found
pub class_within : (app : AppParts) (name : List ℕ) (c : ℕ) → Some c ≡ class_named app name → c < length app.classes
unfolding class_named
class_within app name c found = (position-Some (is_named app name) app.classes c (record { name = record { 0 = 0 }; parent = None; interfaces = []; flags = 0 }) (sym found)).0

-- ---- methods, by the numbers of callbacks
name_back : (n : Option ℕ) → option_map (λ (x : NameNo). x.0) (as_name n) ≡ n
name_back None = refl
name_back (Some n) = refl

proto_back : (p : Option ℕ) → option_map (λ (x : ProtoNo). x.0) (as_proto p) ≡ p
proto_back None = refl
proto_back (Some p) = refl

-- the method that the numbers of callback k lead to
pub method_by_numbers : (app : AppParts) (c : ℕ) (kind : Kind) (k : ℕ) (callback : Callback) → callback ≡ numbers_at app kind k
    → as_method (found_on app (slice_get app.classes c) (option_map (λ (n : NameNo). n.0) callback.name) (option_map (λ (p : ProtoNo). p.0) callback.proto)) ≡ as_method (callback_method app c kind k)
unfolding callback_method
method_by_numbers app c kind k callback is =
    rw (is, name_back (option_and_then (name_number app) (slice_get (callbacks_of kind) k)), proto_back (option_and_then (proto_number app) (slice_get (prototypes_of kind) k))) refl

pub numbers_get : (app : AppParts) (kind : Kind) (callbacks : List Callback) (k : ℕ) (d : Callback) → callbacks ≡ numbers_of app kind → k < length callbacks → get_or callbacks k d ≡ numbers_at app kind k
numbers_get app kind callbacks k d is low =
    let len = length-map-range_with_len (numbers_at app kind) 0 (length (callbacks_of kind)) in
    rw is (get_or-map-range_with_len (numbers_at app kind) 0 (length (callbacks_of kind)) k k d (omega (arith, low, ap length is, len)) (omega arith))

-- the methods of the callbacks below k
abbrev pub methods_below : AppParts → (c : ℕ) → Kind → ℕ → List (Option MethodNo)
methods_below app c kind k = map (λ i. as_method (callback_method app c kind i)) (range_with_len 0 k)

pub methods_more : (app : AppParts) (c : ℕ) (kind : Kind) (k : ℕ) (methods : List (Option MethodNo)) (m : Option MethodNo) → methods ≡ methods_below app c kind k → m ≡ as_method (callback_method app c kind k)
    → methods ++ m ∷ [] ≡ methods_below app c kind (k + 1)
methods_more app c kind k methods m before is = rw (before, is) (sym (map-range_with_len_more (λ i. as_method (callback_method app c kind i)) 0 k k (omega arith)))

pub methods_all : (app : AppParts) (c : ℕ) (kind : Kind) (k : ℕ) (callbacks : List Callback) → callbacks ≡ numbers_of app kind → k ≡ length callbacks → methods_below app c kind k ≡ methods_on app c kind
unfolding methods_on
methods_all app c kind k callbacks is all =
    let len = length-map-range_with_len (numbers_at app kind) 0 (length (callbacks_of kind)) in
    let same : k ≡ length (callbacks_of kind) = omega (arith, all, ap length is, len) in
    ap (methods_below app c kind) same

-- ---- rows that were bound
record IsBound (app : AppParts) (listed : ListedParts) (row : ComponentParts) : Type 0 where
  class : class_named app listed.class ≡ Some row.class.0
  kind : row.kind ≡ listed.kind
  exits : row.exits ≡ listed.exits
  methods : row.methods ≡ methods_on app row.class.0 listed.kind

row_bound : (app : AppParts) (i : ℕ) (listed : ListedParts) (row : ComponentParts) → bound_row app i listed ≡ Ok row → IsBound app listed row
row_bound app i listed row come = by (class_named app listed.class) refl come
  where
    by : (found : Option ℕ) → class_named app listed.class ≡ found → (class_or_fault i found >>= row_on app i listed) ≡ Ok row → IsBound app listed row
    by None is come = absurd (no_ok (fault.NoClass i) row come)
    by (Some c) is come =
        let (_, made) = else_ok (has_one_callback listed.kind && is_missing (slice_get (methods_on app c listed.kind) 0)) (fault.NoCallback i) _ row come in
        rw (← same_ok (record { class = record { 0 = c }; kind = listed.kind; exits = listed.exits; methods = methods_on app c listed.kind }) row made)
        (record { class = is; kind = refl; exits = refl; methods = refl })

-- ---- the first n rows of the list
-- the rows before place i, and the row at it
pub rows_next : (app : AppParts) (listed : List ListedParts) (i : ℕ) (rows : List ComponentParts) (l : ListedParts) (row : ComponentParts) → rows_below (λ k. bound_at app k (slice_get listed k)) i ≡ Ok rows
    → slice_get listed i ≡ Some l → bound_row app i l ≡ Ok row → rows_below (λ k. bound_at app k (slice_get listed k)) (i + 1) ≡ Ok (rows ++ row ∷ [])
rows_next app listed i rows l row before here made = rows_more (λ k. bound_at app k (slice_get listed k)) i rows row before (ap (bound_at app i) here ∙ made)

pub rows_all : (app : AppParts) (listed : List ListedParts) (i : ℕ) (rows : List ComponentParts) → rows_below (λ k. bound_at app k (slice_get listed k)) i ≡ Ok rows → i ≡ length listed → bound_of app listed ≡ Ok rows
unfolding bound_of
rows_all app listed i rows come all = ap (rows_below (λ k. bound_at app k (slice_get listed k))) (sym all) ∙ come

-- the fault of a row is that of all
pub rows_fault : (app : AppParts) (listed : List ListedParts) (i : ℕ) (rows : List ComponentParts) (l : ListedParts) (e : ListFault) → rows_below (λ k. bound_at app k (slice_get listed k)) i ≡ Ok rows
    → i < length listed → slice_get listed i ≡ Some l → Unless (is_memory e) (bound_row app i l ≡ Err e) → Unless (is_memory e) (bound_of app listed ≡ Err e)
unfolding bound_of
rows_fault app listed i rows l e before low here stop = rows_stop (is_memory e) (λ k. bound_at app k (slice_get listed k)) i (length listed) rows e before low (at_row (is_memory e) stop)
  where
    at_row : (b : Bool) → Unless b (bound_row app i l ≡ Err e) → Unless b (bound_at app i (slice_get listed i) ≡ Err e)
    at_row true stop = tt
    at_row false stop = ap (bound_at app i) here ∙ stop

record AreBound (app : AppParts) (listed : List ListedParts) (n : ℕ) (rows : List ComponentParts) : Type 0 where
  len : length rows ≡ n
  each : (k : ℕ) (l : ListedParts) (d : ComponentParts) → k < n → IsBound app (get_or listed k l) (get_or rows k d)

one_bound : (app : AppParts) (listed : List ListedParts) (n : ℕ) (rows : List ComponentParts) (row : ComponentParts) → AreBound app listed n rows
    → ((l : ListedParts) → IsBound app (get_or listed n l) row) → AreBound app listed (suc n) (rows ++ row ∷ [])
one_bound app listed n rows row before last = record {
  len = omega (arith, before.len, length-append rows (row ∷ []));
  each = λ k l d low. elim (cases_lt k n) [
    | inl less ↦ rw (get_or_append_left rows (row ∷ []) d k (omega (arith, less, before.len))) (before.each k l d less)
    | inr past ↦
        let at : k ≡ length rows = omega (arith, past, low, before.len) in
        rw (at, get_or-append_seam rows row [] d, before.len) (last l)
  ];
}

are_bound : (app : AppParts) (listed : List ListedParts) (n : ℕ) (rows : List ComponentParts) → n ≤ length listed → rows_below (λ k. bound_at app k (slice_get listed k)) n ≡ Ok rows → AreBound app listed n rows
are_bound app listed zero rows few come = rw (← same_ok [] rows come) (record { len = refl; each = λ k l d low. absurd (omega (arith, low)) })
are_bound app listed (suc n) rows few come =
    let f : ℕ → Result ComponentParts ListFault = λ k. bound_at app k (slice_get listed k) in
    let (before, steps, rest) = bind_ok (rows_below f n) (λ rs. f n >>= (λ row. Ok (rs ++ row ∷ []))) rows come in
    let (row, made, last) = bind_ok (f n) (λ row. Ok (before ++ row ∷ [])) rows rest in
    rw (← same_ok (before ++ row ∷ []) rows last)
    (one_bound app listed n before row (are_bound app listed n before (omega (arith, few)) steps)
    (λ l. row_bound app n (get_or listed n l) row (sym (ap (bound_at app n) (slice_get-get_or listed n l (omega (arith, few)))) ∙ made)))

-- ---- the table belongs to the application
blank_class : ClassParts
blank_class = record { name = record { 0 = 0 }; parent = None; interfaces = []; flags = 0 }

one_name : (app : AppParts) (a b : List ℕ) (c : ℕ) → class_named app a ≡ Some c → class_named app b ≡ Some c → a ≡ b
unfolding class_named
one_name app a b c first second =
    let p = (position-Some (is_named app a) app.classes c blank_class first).1 in
    let q = (position-Some (is_named app b) app.classes c blank_class second).1 in
    sym ((bytes_eq-Decides (type_text app (get_or app.classes c blank_class).name.0) a).0 p) ∙ (bytes_eq-Decides (type_text app (get_or app.classes c blank_class).name.0) b).0 q

method_back : (m : Option ℕ) → method_in (Some (as_method m)) ≡ m
method_back None = refl
method_back (Some m) = refl

no_name : (app : AppParts) (class : Option ClassParts) (proto : Option ℕ) → None ≡ found_on app class None proto
no_name app None proto = refl
no_name app (Some class) proto = refl

methods_get : (app : AppParts) (c : ℕ) (kind : Kind) (k : ℕ) → method_in (slice_get (methods_on app c kind) k) ≡ callback_method app c kind k
unfolding methods_on callback_method
methods_get app c kind k =
    let n = length (callbacks_of kind) in
    let f : ℕ → Option MethodNo = λ i. as_method (callback_method app c kind i) in
    let len = length-map-range_with_len f 0 n in
    elim (cases_lt k n) [
      | inl less ↦ rw (slice_get-get_or (map f (range_with_len 0 n)) k None (omega (arith, less, len)), get_or-map-range_with_len f 0 n k k None less (omega arith)) (method_back (callback_method app c kind k))
      | inr past ↦ rw (slice_get_past (map f (range_with_len 0 n)) k (omega (arith, past, len)), slice_get_past (callbacks_of kind) k past) (no_name app (slice_get app.classes c) (option_and_then (proto_number app) (slice_get (prototypes_of kind) k)))
    ]

is_listed : (app : AppParts) (listed : ListedParts) (row : ComponentParts) → IsBound app listed row → HasExits listed → IsListed app row
unfolding methods_on
is_listed app listed row bound fits = record {
  class = class_within app listed.class row.class.0 (sym bound.class);
  exits = rw (bound.exits, bound.kind) fits;
  entries = rw (bound.methods, bound.kind) (length-map-range_with_len (λ i. as_method (callback_method app row.class.0 listed.kind i)) 0 (length (callbacks_of listed.kind)));
  methods = λ k. rw (bound.methods, bound.kind) (methods_get app row.class.0 listed.kind k);
}

blank_listed : ListedParts
blank_listed = record { kind = Receiver; class = []; exits = 0 }

-- what a list that was read is bound to
pub belongs : (app : AppParts) (listed : List ListedParts) (rows : List ComponentParts) → IsReadList listed → bound_of app listed ≡ Ok rows → BelongsTo app rows
unfolding bound_of
belongs app listed rows read come =
    let all = are_bound app listed (length listed) rows (omega arith) come in
    record {
      limit = omega (arith, all.len, read.limit);
      distinct = λ i j d low high same.
          let first = all.each i blank_listed d (omega (arith, low, high, all.len)) in
          let second = all.each j blank_listed d (omega (arith, high, all.len)) in
          read.distinct i j blank_listed low (omega (arith, high, all.len)) (one_name app _ _ (get_or rows j d).class.0 (rw same at first.class) second.class);
      each = λ k d low. is_listed app (get_or listed k blank_listed) (get_or rows k d) (all.each k blank_listed d (omega (arith, low, all.len))) (read.exits k blank_listed (omega (arith, low, all.len)));
    }
