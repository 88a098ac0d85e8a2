-- The methods of callbacks, and what they reach.
use Rattle.std.proofs.Common.{◌≡◌, ℕ, zero, suc, ◌<◌, ◌≤◌, ◌++◌, ◌∷◌, [], Bool, true, false, List, length, get_or, refl, sym, ap, ap₂, ◌∙◌, take, ◌+◌, subst, ⊎_elim, arith, Contains, Option, Some, None, slice_get}
use Rattle.std.specs.List.{All, filter_map, flat_map}
use Rattle.std.specs.Option.{option_and_then}
use Rattle.std.proofs.lemmas.Grind.{flat_map-append}
use Rattle.std.proofs.lemmas.Bool.{cases_lt, true≢false}
use Rattle.std.proofs.lemmas.List.{append-nil, get_or_past, take_more}
use Rattle.std.proofs.lemmas.List.Elements.{All-contains, Contains-get_or, Contains-append_cases, Contains-append_left, Contains-append_right}
use Rattle.std.proofs.lemmas.List.Quantifiers.{position-Some}
use Rattle.ns_base.specs.declared.rows.MethodNo.{MethodNo}
use Rattle.app_model.specs.declared.rows.MethodRow.{MethodRow}
use Rattle.app_model.specs.CallGraph.{FitsCode, GraphParts}
use Rattle.app_model.specs.Components.{BelongsTo, ComponentParts, IsListed, callback_at, callback_method, callbacks_of, entries_of, found_on, method_in, method_of, name_number, proto_number, prototypes_of}
use Rattle.app_model.specs.Hierarchy.{line_of, lookup_of}
use Rattle.app_model.specs.Hierarchy as hierarchy
use Rattle.app_model.specs.Parts.{AppParts, ClassParts}
use Rattle.app_model.specs.Reach.{IsReached, called, given}
use Rattle.call_reach.proofs.Adding.{callee_within}
use Rattle.call_reach.proofs.Reached.{set_by_callee}
use Rattle.class_graph.proofs.Lists.{there_at}
use Rattle.flow_model.proofs.Slots.{nearest_below}
use Rattle.scope_facts.specs.Fields.{is_marked}

abbrev kept_method : Option MethodNo → Option MethodNo
kept_method m = m

abbrev methods_in : ComponentParts → List MethodNo
methods_in component = filter_map kept_method component.methods

-- ---- elements of joined lists
joined_there : {X Y : Type 0} (f : X → List Y) (xs : List X) (k : ℕ) (x : X) (y : Y) → slice_get xs k ≡ Some x → Contains (f x) y → Contains (flat_map f xs) y
joined_there f [] k x y is among = cc
joined_there f (z ∷ zs) zero x y is among = let same : z ≡ x = cc in Contains-append_left (f z) (flat_map f zs) y (subst (λ (u : _). Contains (f u) y) (sym same) among)
joined_there f (z ∷ zs) (suc k) x y is among = Contains-append_right (f z) (flat_map f zs) y (joined_there f zs k x y is among)

there_joined : {X Y : Type 0} (f : X → List Y) (xs : List X) (y : Y) → Contains (flat_map f xs) y → (k : ℕ) × (x : X) × (slice_get xs k ≡ Some x) × Contains (f x) y
there_joined f [] y among = absurd (omega (arith, among.1))
there_joined f (z ∷ zs) y among = ⊎_elim
    (λ here. (zero, z, refl, here))
    (λ more. (let r = there_joined f zs y more in (suc r.0, r.1, r.2, r.3)))
    (Contains-append_cases (f z) (flat_map f zs) y among)

some_there : (ms : List (Option MethodNo)) (k : ℕ) (m : MethodNo) → slice_get ms k ≡ Some (Some m) → Contains (filter_map kept_method ms) m
some_there [] k m is = cc
some_there (None ∷ ms) zero m is = cc
some_there (None ∷ ms) (suc k) m is = some_there ms k m is
some_there (Some n ∷ ms) zero m is = let same : n ≡ m = cc in (0, omega arith, same)
some_there (Some n ∷ ms) (suc k) m is = Contains-append_right (n ∷ []) (filter_map kept_method ms) m (some_there ms k m is)

there_some : (ms : List (Option MethodNo)) (m : MethodNo) → Contains (filter_map kept_method ms) m → (k : ℕ) × (slice_get ms k ≡ Some (Some m))
there_some [] m among = absurd (omega (arith, among.1))
there_some (None ∷ ms) m among = let r = there_some ms m among in (suc r.0, r.1)
there_some (Some n ∷ ms) m among = ⊎_elim
    (λ (here : Contains (n ∷ []) m). (let at : here.0 ≡ 0 = omega (arith, here.1) in let same : n ≡ m = sym (ap (λ (j : ℕ). get_or (n ∷ []) j m) at) ∙ here.2 in (zero, ap (λ (k : MethodNo). Some (Some k)) same)))
    (λ more. (let r = there_some ms m more in (suc r.0, r.1)))
    (Contains-append_cases (n ∷ []) (filter_map kept_method ms) m among)

pub entries_step : (rows : List ComponentParts) (i : ℕ) (row : ComponentParts) (old new : List MethodNo) (ms : List (Option MethodNo)) → i < length rows → row ≡ get_or rows i row → old ≡ entries_of (take i rows)
    → new ≡ old ++ filter_map kept_method ms → ms ≡ row.methods → new ≡ entries_of (take (i + 1) rows)
unfolding entries_of
entries_step rows i row old new ms low read before is same =
    is ∙ ap₂ (λ (xs : List MethodNo) (ys : List (Option MethodNo)). xs ++ filter_map kept_method ys) before same
    ∙ sym (ap (flat_map methods_in) (take_more rows i row low ∙ ap (λ (r : ComponentParts). take i rows ++ r ∷ []) (sym read)) ∙ flat_map-append methods_in (take i rows) (row ∷ []) ∙ ap (λ (xs : List MethodNo). flat_map methods_in (take i rows) ++ xs) (append-nil (methods_in row)))

-- ---- callbacks are entries, and entries callbacks
pub callback_there : (list : List ComponentParts) (c k m : ℕ) → callback_at list c k ≡ Some m → Contains (entries_of list) (record { 0 = m })
unfolding callback_at entries_of
callback_there list c k m is = go (slice_get list c) refl is
  where
    in_row : (component : ComponentParts) → slice_get list c ≡ Some component → (found : Option (Option MethodNo)) → slice_get component.methods k ≡ found → method_in found ≡ Some m → Contains (flat_map methods_in list) (record { 0 = m })
    in_row component at None there none = cc
    in_row component at (Some None) there none = cc
    in_row component at (Some (Some n)) there some =
        let same : ◌≡◌ {A = MethodNo} n (record { 0 = m }) = (let e : n.0 ≡ m = cc in ap (λ (j : ℕ). record { 0 = j }) e) in
        subst (Contains (flat_map methods_in list)) same (joined_there methods_in list c component n at (some_there component.methods k n there))

    go : (row : Option ComponentParts) → slice_get list c ≡ row → method_of row k ≡ Some m → Contains (flat_map methods_in list) (record { 0 = m })
    go None at none = cc
    go (Some component) at some = in_row component at (slice_get component.methods k) refl some

pub there_callback : (list : List ComponentParts) (entry : MethodNo) → Contains (entries_of list) entry → (c : ℕ) × (k : ℕ) × (callback_at list c k ≡ Some entry.0)
unfolding callback_at entries_of
there_callback list entry among =
    let row = there_joined methods_in list entry among in
    let place = there_some row.1.methods entry row.3 in
    (row.0, place.0, rw (row.2, place.1) refl)

-- ---- both are methods of the application
method_below : (app : AppParts) (name proto c m : ℕ) → hierarchy.method_in app name proto c ≡ Some m → m < length app.methods
unfolding hierarchy.method_in
method_below app name proto c m is =
    let blank : MethodRow = record { class = record { 0 = 0 }; name = record { 0 = 0 }; proto = record { 0 = 0 }; flags = 0; registers = 0; ins = 0 } in
    (position-Some _ app.methods m blank is).0

found_below : (app : AppParts) (class : Option ClassParts) (name proto : Option ℕ) (m : ℕ) → found_on app class name proto ≡ Some m → m < length app.methods
unfolding lookup_of
found_below app (Some class) (Some name) (Some proto) m is =
    nearest_below (hierarchy.method_in app name proto) (length app.methods) m (λ c k found. method_below app name proto c k found) (line_of app.classes class.name.0) is
found_below app None name proto m is = cc
found_below app (Some class) None proto m is = cc
found_below app (Some class) (Some name) None m is = cc

pub callback_below : (app : AppParts) (list : List ComponentParts) (c k m : ℕ) → BelongsTo app list → callback_at list c k ≡ Some m → m < length app.methods
unfolding callback_at callback_method
callback_below app list c k m belongs is = go (slice_get list c) refl is
  where
    go : (row : Option ComponentParts) → slice_get list c ≡ row → method_of row k ≡ Some m → m < length app.methods
    go None at none = cc
    go (Some component) at some =
        let listed = All-contains (IsListed app) list component belongs.each (there_at list c component at) in
        found_below app (slice_get app.classes component.class.0) (option_and_then (name_number app) (slice_get (callbacks_of component.kind) k)) (option_and_then (proto_number app) (slice_get (prototypes_of component.kind) k)) m (sym (listed.methods k) ∙ some)

pub entries_within : (app : AppParts) (list : List ComponentParts) → BelongsTo app list → All (λ (m : MethodNo). m.0 < length app.methods) (entries_of list)
entries_within app list belongs = λ i d low.
    let among : Contains (entries_of list) (get_or (entries_of list) i d) = Contains-get_or (entries_of list) i d low in
    let back = there_callback list (get_or (entries_of list) i d) among in
    callback_below app list back.0 back.1 (get_or (entries_of list) i d).0 belongs back.2

-- ---- reach
pub reached_within : (app : AppParts) (graph : GraphParts) → FitsCode app graph → (from : List MethodNo) → All (λ (m : MethodNo). m.0 < length app.methods) from → (m : ℕ) → IsReached graph from m → m < length app.methods
reached_within app graph fits from inside m (given n among) = All-contains (λ (k : MethodNo). k.0 < length app.methods) from n inside among
reached_within app graph fits from inside m (called {m = caller} i n reached among) =
    let by = set_by_callee graph caller i n among in
    callee_within app graph fits by.0 by.1 n by.3

-- what a method that is reached reaches is reached
pub reached_on : (graph : GraphParts) (from : List MethodNo) (m n : ℕ) → IsReached graph from m → IsReached graph (record { 0 = m } ∷ []) n → IsReached graph from n
reached_on graph from m n first (given k one) =
    let is : record { 0 = m } ≡ k = let at : one.0 ≡ 0 = omega (arith, one.1) in sym (ap (λ (j : ℕ). get_or (record { 0 = m } ∷ []) j k) at) ∙ one.2 in
    subst (λ (k : MethodNo). IsReached graph from k.0) is first
reached_on graph from m n first (called {m = caller} i k reached among) = called i k (reached_on graph from m caller first reached) among

-- marks of what is reached
pub marked_within : (marks : List Bool) (m : ℕ) → is_marked marks m ≡ true → m < length marks
marked_within marks m is = ⊎_elim (λ lt. lt) (λ (past : length marks ≤ m). absurd (true≢false (sym is ∙ get_or_past marks m false past))) (cases_lt m (length marks))
