-- Entries of callbacks, what calls reach from them, and to which lock fields that stores.
use Rattle.std.proofs.Common.{◌≡◌, ℕ, suc, zero, ◌<◌, ◌≤◌, ◌++◌, List, [], ◌∷◌, length, Bool, true, false, Option, Some, None, refl, sym, ap, ◌∙◌, subst, inl, inr, ⊎_elim, arith, Contains, get_or, take, ◌+◌, lt-ltb, eq-eqb, eqb-true}
use Rattle.std.specs.Prelude.{◌⊎◌, slice_get, flat_map}
use Rattle.std.specs.Int.{bit_at}
use Rattle.std.specs.List.{All}
use Rattle.std.proofs.lemmas.Bool.{and_from, and_parts, cases_lt, false≢true, ltb-true}
use Rattle.std.proofs.lemmas.List.{append_assoc, flat_map_more, get_or_past, take_more}
use Rattle.std.proofs.lemmas.List.Concat.{flat_map-cons}
use Rattle.std.proofs.lemmas.List.Elements.{All-contains, filter_map-append, Contains-append_cases, Contains-append_left, Contains-append_right, Contains-get_or}
use Rattle.std.proofs.lemmas.List.Quantifiers.{position-Some}
use Rattle.std.proofs.lemmas.Nat.Bits.{bit_at-zero}
use Rattle.std.proofs.lemmas.Option.{get_or_from_slice_get, slice_get_within}
use Rattle.ns_base.specs.declared.rows.MethodNo.{MethodNo}
use Rattle.dalvik.specs.declared.body.Place.{Place}
use Rattle.app_model.specs.CallGraph.{FitsCode, GraphParts, callees_at}
use Rattle.app_model.specs.Components.{BelongsTo, ComponentParts, IsListed, callback_at, callback_method, entries_of, found_on, method_in, method_of}
use Rattle.app_model.specs.Hierarchy.{line_of, lookup_of, method_in as declared_in}
use Rattle.app_model.specs.Masks.{in_lock_mask}
use Rattle.app_model.specs.Parts.{AppParts, ClassParts}
use Rattle.app_model.specs.Reach.{Assigns, IsReached, given, called, StoresAt, is_object_store}
use Rattle.app_model.specs.Sites.{sites_below}
use Rattle.app_model.specs.Sound.{IsSoundApp}
use Rattle.app_model.specs.Targets.{IsCallGraph}
use Rattle.app_model.specs.Words.{code_len, ins_of, place_at, places_of}
use Rattle.call_reach.specs.Starts.{AreAssigned, AreReached}
use Rattle.call_reach.proofs.Adding.{callee_within, user_within}
use Rattle.call_reach.proofs.Reached.{set_by_callee}
use Rattle.flow_model.specs.TagFlow.{TellsReached, TellsStores}
use Rattle.tag_flow.specs.Known.{IsKnown, KnownParts, chosen, is_reached}
use Rattle.tag_rows.specs.Sites.{AreSites}
use Rattle.tag_rows.specs.declared.sites.Site.{Site}
use Rattle.tag_rows.proofs.Acts.{method_within}
use Rattle.flow_model.proofs.Slots.{nearest_below, slot_below}

abbrev method_no : ℕ → MethodNo
method_no m = record { 0 = m }

abbrev pub own_entries : ComponentParts → List MethodNo
own_entries c = chosen c.methods

-- ---- the methods of callbacks are the entries
first_one : (n : MethodNo) (rest : List MethodNo) (m : ℕ) → n.0 ≡ m → Contains (n ∷ rest) (method_no m)
first_one n rest m is = subst (Contains (n ∷ rest)) (ap method_no is) (Contains-append_left (n ∷ []) rest n (0, omega arith, refl))

entry_in : (methods : List (Option MethodNo)) (x m : ℕ) → method_in (slice_get methods x) ≡ Some m → Contains (chosen methods) (method_no m)
entry_in [] x m e = absurd (cc)
entry_in (None ∷ ms) zero m e = absurd (cc)
entry_in (Some n ∷ ms) zero m e = first_one n (chosen ms) m (cc)
entry_in (None ∷ ms) (suc x) m e = entry_in ms x m e
entry_in (Some n ∷ ms) (suc x) m e = Contains-append_right (n ∷ []) (chosen ms) (method_no m) (entry_in ms x m e)

pub callback_entry : (list : List ComponentParts) (c x m : ℕ) → callback_at list c x ≡ Some m → Contains (entries_of list) (method_no m)
unfolding callback_at entries_of
callback_entry list c x m is = go list c is
  where
    go : (list : List ComponentParts) (c : ℕ) → method_of (slice_get list c) x ≡ Some m → Contains (flat_map own_entries list) (method_no m)
    go [] c e = absurd (cc)
    go (p ∷ ps) zero e = rw (flat_map-cons own_entries p ps) (Contains-append_left (own_entries p) (flat_map own_entries ps) (method_no m) (entry_in p.methods x m e))
    go (p ∷ ps) (suc c) e = rw (flat_map-cons own_entries p ps) (Contains-append_right (own_entries p) (flat_map own_entries ps) (method_no m) (go ps c e))

entry_from : (methods : List (Option MethodNo)) (n : MethodNo) → Contains (chosen methods) n → (x : ℕ) × (method_in (slice_get methods x) ≡ Some n.0)
entry_from [] n h = absurd (omega (arith, h.1))
entry_from (None ∷ ms) n h = let at = entry_from ms n h in (suc at.0, at.1)
entry_from (Some k ∷ ms) n h = ⊎_elim
    (λ (here : Contains (k ∷ []) n). (0, (let at : here.0 ≡ 0 = omega (arith, here.1) in ap (λ (y : MethodNo). Some y.0) (sym (ap (λ (j : ℕ). get_or (k ∷ []) j n) at) ∙ here.2))))
    (λ later. let at = entry_from ms n later in (suc at.0, at.1)) (Contains-append_cases (k ∷ []) (chosen ms) n h)

pub entry_callback : (list : List ComponentParts) (n : MethodNo) → Contains (entries_of list) n → (c : ℕ) × (x : ℕ) × (callback_at list c x ≡ Some n.0)
unfolding callback_at entries_of
entry_callback list n has = go list has
  where
    go : (list : List ComponentParts) → Contains (flat_map own_entries list) n → (c : ℕ) × (x : ℕ) × (method_of (slice_get list c) x ≡ Some n.0)
    go [] h = absurd (omega (arith, h.1))
    go (p ∷ ps) h = ⊎_elim
        (λ here. let at = entry_from p.methods n here in (0, at.0, at.1))
        (λ later. let at = go ps later in (suc at.0, at.1, at.2))
        (Contains-append_cases (own_entries p) (flat_map own_entries ps) n (subst (λ (xs : List MethodNo). Contains xs n) (flat_map-cons own_entries p ps) h))

-- as they are found, one after another
pub chosen_more : (before : List MethodNo) (methods : List (Option MethodNo)) (i : ℕ) (d : Option MethodNo) → i < length methods → (before ++ chosen (take i methods)) ++ chosen (get_or methods i d ∷ []) ≡ before ++ chosen (take (i + 1) methods)
chosen_more before methods i d lt =
    append_assoc before (chosen (take i methods)) (chosen (get_or methods i d ∷ []))
    ∙ ap (λ (rest : List MethodNo). before ++ rest) (sym (ap chosen (take_more methods i d lt) ∙ filter_map-append (λ (m : Option MethodNo). m) (take i methods) (get_or methods i d ∷ [])))

pub entries_more : (list : List ComponentParts) (i : ℕ) (d : ComponentParts) → i < length list → flat_map own_entries (take i list) ++ own_entries (get_or list i d) ≡ flat_map own_entries (take (i + 1) list)
entries_more list i d lt = flat_map_more own_entries [] (take i list) (get_or list i d) ∙ sym (ap (flat_map own_entries) (take_more list i d lt))

-- ---- they are methods of the application
found_below : (app : AppParts) (t name proto n : ℕ) → lookup_of app t name proto ≡ Some n → n < length app.methods
unfolding lookup_of declared_in
found_below app t name proto n is =
    nearest_below (declared_in app name proto) (length app.methods) n
    (λ c k found. (position-Some _ app.methods k (record { class = record { 0 = 0 }; name = record { 0 = 0 }; proto = record { 0 = 0 }; flags = 0; registers = 0; ins = 0 }) found).0) (line_of app.classes t) is

found_at : (app : AppParts) (class : Option ClassParts) (name proto : Option ℕ) (m : ℕ) → found_on app class name proto ≡ Some m → m < length app.methods
found_at app (Some class) (Some name) (Some proto) m e = found_below app class.name.0 name proto m e
found_at app (Some class) (Some name) None m e = absurd (cc)
found_at app (Some class) None proto m e = absurd (cc)
found_at app None name proto m e = absurd (cc)

callback_below : (app : AppParts) (list : List ComponentParts) → BelongsTo app list → (c x m : ℕ) → callback_at list c x ≡ Some m → m < length app.methods
unfolding callback_at callback_method
callback_below app list belongs c x m is = go (slice_get list c) refl is
  where
    go : (row : Option ComponentParts) → slice_get list c ≡ row → method_of row x ≡ Some m → m < length app.methods
    go None at e = absurd (cc)
    go (Some row) at e =
        let listed : IsListed app row = subst (IsListed app) (get_or_from_slice_get list c row row at) (belongs.each c row (slice_get_within list c row at)) in
        found_at app _ _ _ m (sym (listed.methods x) ∙ e)

pub entries_below : (app : AppParts) (list : List ComponentParts) → BelongsTo app list → All (λ (m : MethodNo). m.0 < length app.methods) (entries_of list)
entries_below app list belongs i d lt =
    let at = entry_callback list (get_or (entries_of list) i d) (Contains-get_or (entries_of list) i d lt) in
    callback_below app list belongs at.0 at.1 _ at.2

pub callee_below : (app : AppParts) (graph : GraphParts) → FitsCode app graph → (m i : ℕ) (n : MethodNo) → Contains (callees_at graph m i) n → n.0 < length app.methods
callee_below app graph fits m i n among = let by = set_by_callee graph m i n among in callee_within app graph fits by.0 by.1 n by.3

reached_below : (app : AppParts) (graph : GraphParts) → FitsCode app graph → (from : List MethodNo) → All (λ (m : MethodNo). m.0 < length app.methods) from → (m : ℕ) → IsReached graph from m → m < length app.methods
reached_below app graph fits from inside _ (given n among) = All-contains (λ (m : MethodNo). m.0 < length app.methods) from n inside among
reached_below app graph fits from inside _ (called {m = m} i n reached among) = callee_below app graph fits m i n among

pub tells_reached : (app : AppParts) (graph : GraphParts) (list : List ComponentParts) (marks : List Bool) → FitsCode app graph → BelongsTo app list → AreReached app graph (entries_of list) marks
    → TellsReached graph list (λ m. get_or marks m false)
tells_reached app graph list marks fits belongs are m = ⊎_elim
    (λ lt. are.exact m lt)
    (λ past. (
      λ e. absurd (false≢true (sym (get_or_past marks m false (omega (arith, past, are.len))) ∙ e)),
      λ reached. absurd (let lt = reached_below app graph fits (entries_of list) (entries_below app list belongs) m reached in omega (arith, lt, past)),
    ))
    (cases_lt m (length app.methods))

-- ---- stores
store_within : (app : AppParts) (m i l : ℕ) → StoresAt app m i l → i < code_len app m
unfolding place_at
store_within app m i l s = go (slice_get (places_of app m) i) refl s.store
  where
    go : (place : Option Place) → slice_get (places_of app m) i ≡ place → is_object_store (ins_of place) ≡ true → i < code_len app m
    go None is off = absurd (cc)
    go (Some place) is on = slice_get_within (places_of app m) i place is

stays_or_below : (app : AppParts) (graph : GraphParts) → FitsCode app graph → (n by : ℕ) → IsReached graph (method_no n ∷ []) by → (by ≡ n) ⊎ (n < length app.methods)
stays_or_below app graph fits n _ (given k one) =
    inl (let at : one.0 ≡ 0 = omega (arith, one.1) in ap (λ (y : MethodNo). y.0) (sym (sym (ap (λ (j : ℕ). get_or (method_no n ∷ []) j k) at) ∙ one.2)))
stays_or_below app graph fits n _ (called {m = m} i k reached among) = ⊎_elim
    (λ is. inr (let by = set_by_callee graph m i k among in let lt = user_within app graph fits m i by.0 by.2 in omega (arith, lt, is)))
    (λ lt. inr lt) (stays_or_below app graph fits n m reached)

assigner_below : (app : AppParts) (graph : GraphParts) → IsSoundApp app → FitsCode app graph → (n l : ℕ) → Assigns app graph n l → n < length app.methods
assigner_below app graph sound fits n l a = ⊎_elim
    (λ is. (let lt = method_within app a.by a.index sound.sizes (store_within app a.by a.index l a.stores) in omega (arith, lt, is)))
    (λ lt. lt) (stays_or_below app graph fits n a.by a.reached)

pub tells_stores : (app : AppParts) (graph : GraphParts) (masks : List ℕ) → IsSoundApp app → FitsCode app graph → AreAssigned app graph masks → TellsStores app graph (λ n l. in_lock_mask (get_or masks n 0) l)
tells_stores app graph masks sound fits are n l = (to, back)
  where
    to : in_lock_mask (get_or masks n 0) l ≡ true → Assigns app graph n l
    to e =
        let both = and_parts _ _ e in
        let bit = eqb-true (bit_at (get_or masks n 0) l) 1 both.1 in
        ⊎_elim (λ lt. (are.exact n l lt (ltb-true l 64 both.0)).0 bit)
        (λ past. absurd (let zero_word = get_or_past masks n 0 (omega (arith, past, are.len)) in let off = bit_at-zero l in let on : bit_at 0 l ≡ 1 = subst (λ w. bit_at w l ≡ 1) zero_word bit in omega (arith, off, on)))
        (cases_lt n (length app.methods))

    back : Assigns app graph n l → in_lock_mask (get_or masks n 0) l ≡ true
    back a =
        let low : l < 64 = (let few = sound.sizes.locks in let lt = slot_below app a.by a.index l a.stores.slot in omega (arith, few, lt)) in
        and_from _ _ (lt-ltb l 64 low) (eq-eqb (bit_at (get_or masks n 0) l) 1 ((are.exact n l (assigner_below app graph sound fits n l a) low).1 a))

pub known_below : (k : KnownParts) → IsKnown k → (m : ℕ) → is_reached k m ≡ true → m < length k.app.methods
known_below k known m on = reached_below k.app k.graph known.graph.fits (entries_of k.list) (entries_below k.app k.list known.list) m ((known.reaches m).0 on)

-- a callee of a method that is reached is reached
pub callee_reached : (k : KnownParts) → IsKnown k → (m i : ℕ) (n : MethodNo) → is_reached k m ≡ true → Contains (callees_at k.graph m i) n → is_reached k n.0 ≡ true
callee_reached k known m i n on among = (known.reaches n.0).1 (called i n ((known.reaches m).0 on) among)

pub entry_reached : (k : KnownParts) → IsKnown k → (n : MethodNo) → Contains (entries_of k.list) n → is_reached k n.0 ≡ true
entry_reached k known n among = (known.reaches n.0).1 (given n among)

pub entries_are_below : (app : AppParts) (list : List ComponentParts) (entries : List MethodNo) → BelongsTo app list → entries ≡ entries_of list → All (λ (m : MethodNo). m.0 < length app.methods) entries
entries_are_below app list entries belongs is = subst (λ (ns : List MethodNo). All (λ (m : MethodNo). m.0 < length app.methods) ns) (sym is) (entries_below app list belongs)

-- what was found is what is to be known
pub known_is : (app : AppParts) (graph : GraphParts) (list : List ComponentParts) (entries : List MethodNo) (marks : List Bool) (masks : List ℕ) (sites : List Site) → IsSoundApp app → IsCallGraph app graph → BelongsTo app list
    → entries ≡ entries_of list → AreReached app graph entries marks → AreAssigned app graph masks → AreSites app sites → length sites ≡ sites_below app (length app.methods) → sites_below app (length app.methods) ≤ 64
    → IsKnown (record { app = app; graph = graph; list = list; entries = entries; reached = marks; masks = masks; sites = sites })
known_is app graph list entries marks masks sites sound is_graph belongs is reached assigned are len few = record {
  app = sound;
  graph = is_graph;
  list = belongs;
  entries = is;
  reaches = tells_reached app graph list marks is_graph.fits belongs (subst (λ (ns : List MethodNo). AreReached app graph ns marks) is reached);
  stores = tells_stores app graph masks sound is_graph.fits assigned;
  sites = are;
  few_sites = omega (arith, len, few);
}
