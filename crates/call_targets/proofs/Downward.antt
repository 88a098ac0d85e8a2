-- The classes right below each type, and a walk down along them.
use Rattle.std.proofs.Common.{◌≡◌, ℕ, ◌+◌, ◌<◌, ◌≤◌, ◌&&◌, true, false, List, [], ◌∷◌, ◌++◌, length, map, refl, sym, ap, ◌∙◌, subst, inl, inr, ⊎_elim, arith, eqb, eq-eqb, Contains, Some, None, slice_get, slice_set, take, get_or, replicate}
use Rattle.std.specs.Prelude.{◌⊎◌, ◌↔◌, is_none}
use Rattle.std.specs.List.{All, range_with_len}
use Rattle.std.proofs.lemmas.Bool.{and_parts, cases_Bool, cases_lt, eqb-true, false≢true, or_cases, or_left, or_right}
use Rattle.std.proofs.lemmas.List.{get_or-map, get_or-replicate, get_or-set_other, get_or-set_same, get_or_past, length-map, length-replicate, length-set, map-set, take_more}
use Rattle.std.proofs.lemmas.List.Elements.{All-contains, Contains-append_left, Contains-get_or, Contains-push, Contains-push_cases}
use Rattle.std.proofs.lemmas.Option.{get_or_from_slice_get, slice_get-get_or, slice_get_cases, slice_get_within}
use Rattle.std.specs.declared.alloc.Global.{Global}
use Rattle.std.specs.declared.vec.Vec.{Vec}
use Rattle.ns_base.specs.declared.rows.TypeNo.{TypeNo}
use Rattle.app_model.specs.Ancestors.{IsAncestor, IsParent, further, its_parent}
use Rattle.app_model.specs.Hierarchy.{class_of_type, has_unknown_above, is_sub, is_unknown, may_be_sub}
use Rattle.app_model.specs.Parts.{AppParts, ClassParts}
use Rattle.app_model.specs.Sound.{IsClassRow, IsSoundApp}
use Rattle.app_model.proofs.HierarchyLaws.{subtypes_told}
use Rattle.class_graph.specs.Walks.{has_kind, met, met_all}
use Rattle.class_graph.proofs.Lists.{any_found, any_there, kind_told, read_of, same_test, told_kind}
use Rattle.class_graph.proofs.Meets.{Grown, grown_all, grown_met, has_all, has_met, kept}
use Rattle.call_targets.proofs.Look.{may_itself}
use Rattle.call_targets.proofs.Members.{from_range, in_range, is_nothing}
use Rattle.call_targets.specs.Below.{AreChildren, IsChild, IsWalked, Puts, TellsBelow, may_be, right_below}

abbrev type_no : ℕ → TypeNo
type_no t = record { 0 = t }

pub read_at : {X : Type 0} (xs : List X) (k : ℕ) → k < length xs → (x : X) × (slice_get xs k ≡ Some x)
read_at xs k lt = ⊎_elim (λ at. (at.0, at.2)) (λ past. absurd (omega (arith, past.0, lt))) (slice_get_cases xs k).1

-- ---- a class is put under types
pub take_has : {X : Type 0} (xs : List X) (i : ℕ) (d x : X) → i < length xs → Contains (take (i + 1) xs) x ↔ (Contains (take i xs) x ⊎ (get_or xs i d ≡ x))
take_has xs i d x lt = rw (take_more xs i d lt) (
  λ c. Contains-push_cases (take i xs) (get_or xs i d) x c,
  λ h. ⊎_elim (λ l. Contains-append_left (take i xs) (get_or xs i d ∷ []) x l) (λ same. rw (← same) (Contains-push (take i xs) (get_or xs i d))) h,
)

pub puts_none : (Under : ℕ → Type 0) (class : TypeNo) (lists : List (List TypeNo)) → ((t : ℕ) → Under t → ⊥) → Puts Under class lists lists
puts_none Under class lists off = record { len = refl; told = λ t u. (λ c. inl c, λ h. ⊎_elim (λ l. l) (λ r. absurd (off t r.0)) h) }

pub puts_next : (P Q R : ℕ → Type 0) (class : TypeNo) (a b c : List (List TypeNo)) → Puts P class a b → Puts Q class b c → ((t : ℕ) → R t ↔ (P t ⊎ Q t)) → Puts R class a c
puts_next P Q R class a b c f g same = record {
  len = g.len ∙ f.len;
  told = λ t u. (
    λ h. ⊎_elim (λ l. ⊎_elim (λ o. inl o) (λ p. inr ((same t).1 (inl p.0), p.1)) ((f.told t u).0 l)) (λ q. inr ((same t).1 (inr q.0), q.1)) ((g.told t u).0 h),
    λ h. (g.told t u).1 (⊎_elim (λ o. inl ((f.told t u).1 (inl o)))
        (λ r. ⊎_elim (λ p. inl ((f.told t u).1 (inr (p, r.1)))) (λ q. inr (q, r.1)) ((same t).0 r.0)) h),
  );
}

pub puts_as : (P Q : ℕ → Type 0) (class : TypeNo) (a b : List (List TypeNo)) → ((t : ℕ) → P t ↔ Q t) → Puts P class a b → Puts Q class a b
puts_as P Q class a b same f = puts_next P (λ t. ⊥) Q class a b b f (puts_none (λ t. ⊥) class b (λ t h. h))
    (λ t. (λ q. inl ((same t).1 q), λ h. ⊎_elim (λ p. (same t).0 p) (λ off. absurd off) h))

-- one more of some types
pub puts_more : (kinds : List TypeNo) (i : ℕ) (d class : TypeNo) (a b c : List (List TypeNo)) → i < length kinds → Puts (λ t. Contains (take i kinds) (type_no t)) class a b → Puts (λ t. t ≡ (get_or kinds i d).0) class b c
    → Puts (λ t. Contains (take (i + 1) kinds) (type_no t)) class a c
puts_more kinds i d class a b c lt f g = puts_next _ _ _ class a b c f g (λ t. let has = take_has kinds i d (type_no t) lt in
    (λ h. ⊎_elim (λ l. inl l) (λ same. inr (sym (ap (λ (k : TypeNo). k.0) same))) (has.0 h), λ h. has.1 (⊎_elim (λ l. inl l) (λ same. inr (rw same refl)) h)))

pub puts_one : (lists : List (List TypeNo)) (p : ℕ) (class : TypeNo) (list : List TypeNo) → slice_get lists p ≡ Some list → Puts (λ t. t ≡ p) class lists (slice_set lists p (list ++ class ∷ []))
puts_one lists p class list e = record { len = length-set lists p (list ++ class ∷ []); told = λ t u. by t u (cases_Bool (eqb t p)) }
  where
    old : right_below lists p ≡ list
    old = get_or_from_slice_get lists p list [] e

    new : right_below (slice_set lists p (list ++ class ∷ [])) p ≡ list ++ class ∷ []
    new = get_or-set_same lists p (list ++ class ∷ []) [] (slice_get_within lists p list e)

    here : (u : TypeNo) → Contains (right_below (slice_set lists p (list ++ class ∷ [])) p) u ↔ (Contains (right_below lists p) u ⊎ ((p ≡ p) × (class ≡ u)))
    here u = rw (new, old) (
      λ c. ⊎_elim (λ l. inl l) (λ r. inr (refl, r)) (Contains-push_cases list class u c),
      λ h. ⊎_elim (λ l. Contains-append_left list (class ∷ []) u l) (λ r. rw (← r.1) (Contains-push list class)) h,
    )

    by : (t : ℕ) (u : TypeNo) → (eqb t p ≡ true) ⊎ (eqb t p ≡ false) → Contains (right_below (slice_set lists p (list ++ class ∷ [])) t) u ↔ (Contains (right_below lists t) u ⊎ ((t ≡ p) × (class ≡ u)))
    by t u (inl f) = let same : t ≡ p = eqb-true t p f in rw same (here u)
    by t u (inr f) =
        let other = λ (same : t ≡ p). false≢true (sym f ∙ eq-eqb t p same) in
        rw (get_or-set_other lists p t (list ++ class ∷ []) [] other) (λ c. inl c, λ h. ⊎_elim (λ l. l) (λ r. absurd (other r.0)) h)

pub puts_vec : (vs : List (Vec TypeNo Global)) (p : ℕ) (class : TypeNo) (old new : Vec TypeNo Global) → p < length vs → old ≡ get_or vs p old → new.items ≡ old.items ++ class ∷ []
    → Puts (λ t. t ≡ p) class (map (λ (v : Vec TypeNo Global). v.items) vs) (map (λ (v : Vec TypeNo Global). v.items) (slice_set vs p new))
puts_vec vs p class old new lt e f =
    let items = λ (v : Vec TypeNo Global). v.items in
    subst (Puts (λ t. t ≡ p) class (map items vs)) (ap (slice_set (map items vs) p) (sym f) ∙ sym (map-set items vs p new))
    (puts_one (map items vs) p class old.items (slice_get-get_or (map items vs) p old.items (omega (arith, lt, length-map vs items)) ∙ ap Some (get_or-map items vs p old old.items lt ∙ ap items (sym e))))

-- what stands right below the type at a place
pub list_at : (lists : List (List TypeNo)) (kinds ks : List TypeNo) (place : ℕ) (t d : TypeNo) (list : List TypeNo) → ks ≡ kinds → slice_get kinds place ≡ Some t → list ≡ right_below lists (get_or ks place d).0 → list ≡ right_below lists t.0
list_at lists kinds ks place t d list same e f = f ∙ ap (λ (s : TypeNo). right_below lists s.0) (ap (λ xs. get_or xs place d) same ∙ get_or_from_slice_get kinds place t d e)

-- ---- all classes
pub children_none : (types : ℕ) → AreChildren [] types (replicate types [])
children_none types = record { len = length-replicate types []; told = λ t u. (λ c. absurd (off t u c), λ h. absurd (omega (arith, h.there.1))) }
  where
    off : (t : ℕ) (u : TypeNo) → Contains (right_below (replicate types []) t) u → ⊥
    off t u c = ⊎_elim
        (λ (lt : t < types). let f : right_below (replicate types []) t ≡ [] = get_or-replicate types t [] [] lt in omega (arith, c.1, ap length f))
        (λ (past : types ≤ t). let f : right_below (replicate types []) t ≡ [] = get_or_past (replicate types []) t [] (omega (arith, past, length-replicate {A = List TypeNo} types [])) in omega (arith, c.1, ap length f))
        (cases_lt t types)

pub children_more : (classes : List ClassParts) (c types : ℕ) (old new : List (List TypeNo)) (row : ClassParts) → slice_get classes c ≡ Some row → Puts (IsParent row) row.name old new
    → AreChildren (take c classes) types old → AreChildren (take (c + 1) classes) types new
children_more classes c types old new row e put before = record { len = put.len ∙ before.len; told = λ t u. (forth t u, back t u) }
  where
    has : (k : ClassParts) → Contains (take (c + 1) classes) k ↔ (Contains (take c classes) k ⊎ (row ≡ k))
    has k = subst (λ r. Contains (take (c + 1) classes) k ↔ (Contains (take c classes) k ⊎ (r ≡ k))) (get_or_from_slice_get classes c row row e) (take_has classes c row k (slice_get_within classes c row e))

    forth : (t : ℕ) (u : TypeNo) → Contains (right_below new t) u → IsChild (take (c + 1) classes) t u
    forth t u h = ⊎_elim
        (λ l. let o = (before.told t u).0 l in record { class = o.class; there = (has o.class).1 (inl o.there); named = o.named; parent = o.parent })
        (λ r. record { class = row; there = (has row).1 (inr refl); named = r.1; parent = r.0 })
        ((put.told t u).0 h)

    back : (t : ℕ) (u : TypeNo) → IsChild (take (c + 1) classes) t u → Contains (right_below new t) u
    back t u h = (put.told t u).1 (⊎_elim
        (λ l. inl ((before.told t u).1 (record { class = h.class; there = l; named = h.named; parent = h.parent })))
        (λ same. inr (subst (λ k. IsParent k t) (sym same) h.parent, ap (λ (k : ClassParts). k.name) same ∙ h.named))
        ((has h.class).0 h.there))

module _ (app : AppParts) (sound : IsSoundApp app) (kind : ℕ) where
  abbrev May : ℕ → Type 0
  May t = may_be_sub app (Some t) kind ≡ true

  -- ---- a step down
  sub_down : (t : ℕ) (u : TypeNo) → IsChild app.classes t u → (v : ℕ) → is_sub app t v ≡ true → is_sub app u.0 v ≡ true
  sub_down t u child v e =
      let named : child.class.name.0 ≡ u.0 = ap (λ (n : TypeNo). n.0) child.named in
      (subtypes_told app sound.ranges u.0 v).1 (inr (⊎_elim
      (λ same. subst (IsAncestor app.classes u.0) same (its_parent child.class child.there named child.parent))
      (λ rest. further child.class child.there named child.parent rest)
      ((subtypes_told app sound.ranges t v).0 e)))

  unknown_down : (t : ℕ) (u : TypeNo) → IsChild app.classes t u → has_unknown_above app t ≡ true → has_unknown_above app u.0 ≡ true
  unfolding has_unknown_above
  unknown_down t u child e =
      let f = any_found (λ v. is_sub app t v && is_unknown app v) (range_with_len 0 (length app.types)) e in
      let parts = and_parts _ _ f.2 in
      any_there (λ v. is_sub app u.0 v && is_unknown app v) (range_with_len 0 (length app.types)) f.0 f.1 (ap (λ b. b && is_unknown app f.0) (sub_down t u child f.0 parts.0) ∙ parts.1)

  may_down : (t : ℕ) (u : TypeNo) → IsChild app.classes t u → May t → May u.0
  unfolding may_be_sub
  may_down t u child e = ⊎_elim
      (λ (s : is_sub app t kind ≡ true). or_left (is_sub app u.0 kind) _ (sub_down t u child kind s))
      (λ h. let parts = and_parts (is_none (class_of_type app.classes kind)) _ h in
      or_right (is_sub app u.0 kind) _ (ap (λ b. b && has_unknown_above app u.0) parts.0 ∙ unknown_down t u child parts.1))
      (or_cases (is_sub app t kind) _ e)

  pub below_types : (lists : List (List TypeNo)) (t : ℕ) → AreChildren app.classes (length app.types) lists → All (λ (u : TypeNo). u.0 < length app.types) (right_below lists t)
  below_types lists t children k d lt =
      let child = (children.told t (get_or (right_below lists t) k d)).0 (Contains-get_or (right_below lists t) k d lt) in
      subst (λ (u : TypeNo). u.0 < length app.types) child.named (All-contains (IsClassRow app) app.classes child.class sound.ranges.classes child.there).name

  -- ---- where a walk begins
  may_unknown : (t : ℕ) → class_of_type app.classes kind ≡ None → t < length app.types → is_unknown app t ≡ true → May t
  unfolding may_be_sub has_unknown_above
  may_unknown t out lt e =
      or_right (is_sub app t kind) _ (rw out (any_there (λ v. is_sub app t v && is_unknown app v) (range_with_len 0 (length app.types)) t (in_range (length app.types) t lt) (rw ((subtypes_told app sound.ranges t t).1 (inl refl)) e)))

  pub walked_start : IsWalked app kind 0 0 (met [] (type_no kind))
  walked_start = record {
    starts = λ t s. ⊎_elim (λ same. rw same (has_met [] (type_no kind))) (λ h. absurd (omega (arith, h.1))) s;
    only = λ u h. ⊎_elim (λ o. absurd (false≢true o)) (λ m. m) ((grown_met [] (type_no kind) May (may_itself app kind)).only u h);
    down = λ k t u lt. absurd (omega (arith, lt));
  }

  pub walked_inside : (c : ℕ) (kinds : List TypeNo) → class_of_type app.classes kind ≡ Some c → IsWalked app kind 0 0 kinds → IsWalked app kind (length app.types) 0 kinds
  walked_inside c kinds e w = record {
    starts = λ t s. w.starts t (⊎_elim (λ same. inl same) (λ h. absurd (let f = h.0 in cc)) s);
    only = w.only;
    down = w.down;
  }

  pub walked_known : (bound : ℕ) (kinds : List TypeNo) → is_unknown app bound ≡ false → IsWalked app kind bound 0 kinds → IsWalked app kind (bound + 1) 0 kinds
  walked_known bound kinds off w = record {
    starts = λ t s. w.starts t (⊎_elim (λ same. inl same)
        (λ h. ⊎_elim (λ less. inr (h.0, less, h.2)) (λ (ge : bound ≤ t). absurd (let same : t ≡ bound = omega (arith, ge, h.1) in false≢true (sym off ∙ rw (← same) h.2))) (cases_lt t bound)) s);
    only = w.only;
    down = w.down;
  }

  pub walked_unknown : (bound : ℕ) (kinds : List TypeNo) → class_of_type app.classes kind ≡ None → bound < length app.types → is_unknown app bound ≡ true → IsWalked app kind bound 0 kinds
      → IsWalked app kind (bound + 1) 0 (met kinds (type_no bound))
  walked_unknown bound kinds out lt on w = record {
    starts = λ t s. ⊎_elim (λ same. keep t (w.starts t (inl same)))
        (λ h. ⊎_elim (λ less. keep t (w.starts t (inr (h.0, less, h.2)))) (λ (ge : bound ≤ t). let same : t ≡ bound = omega (arith, ge, h.1) in rw same (has_met kinds (type_no bound))) (cases_lt t bound)) s;
    only = λ u h. ⊎_elim (w.only u) (λ m. m) (more.only u h);
    down = λ k t u lt. absurd (omega (arith, lt));
  }
    where
      more : Grown May kinds (met kinds (type_no bound))
      more = grown_met kinds (type_no bound) May (may_unknown bound out lt on)

      keep : (t : ℕ) → has_kind kinds t ≡ true → has_kind (met kinds (type_no bound)) t ≡ true
      keep t h = kept May kinds (met kinds (type_no bound)) more t h

  -- ---- what is right below one more type that was met
  pub walked_more : (bound place : ℕ) (kinds : List TypeNo) (lists : List (List TypeNo)) (t : TypeNo) → slice_get kinds place ≡ Some t → AreChildren app.classes (length app.types) lists → IsWalked app kind bound place kinds
      → IsWalked app kind bound (place + 1) (met_all kinds (right_below lists t.0))
  walked_more bound place kinds lists t e children w = record {
    starts = λ s h. keep s (w.starts s h);
    only = λ u h. ⊎_elim (w.only u) (λ m. m) (more.only u h);
    down = λ k s u lt f child. ⊎_elim
        (λ (less : k < place). keep u.0 (w.down k s u less (front k s less f) child))
        (λ (ge : place ≤ k). let here : k ≡ place = omega (arith, ge, lt) in
        let same : s ≡ t = (let g = more.front place t e in let h = ap (slice_get (met_all kinds (right_below lists t.0))) here in cc) in
        has_all kinds (right_below lists t.0) u ((children.told t.0 u).1 (subst (λ (r : TypeNo). IsChild app.classes r.0 u) same child)))
        (cases_lt k place);
  }
    where
      more : Grown May kinds (met_all kinds (right_below lists t.0))
      more = grown_all May kinds (right_below lists t.0) (λ u c. may_down t.0 u ((children.told t.0 u).0 c) (w.only t.0 (told_kind kinds t (place, slice_get_within kinds place t e, get_or_from_slice_get kinds place t t e))))

      keep : (u : ℕ) → has_kind kinds u ≡ true → has_kind (met_all kinds (right_below lists t.0)) u ≡ true
      keep u h = kept May kinds (met_all kinds (right_below lists t.0)) more u h

      front : (k : ℕ) (s : TypeNo) → k < place → slice_get (met_all kinds (right_below lists t.0)) k ≡ Some s → slice_get kinds k ≡ Some s
      front k s lt f =
          let own : slice_get kinds k ≡ Some (get_or kinds k s) = slice_get-get_or kinds k s (omega (arith, lt, slice_get_within kinds place t e)) in
          own ∙ sym (more.front k (get_or kinds k s) own) ∙ f

  -- ---- the end of a walk
  module _ (place : ℕ) (kinds : List TypeNo) (w : IsWalked app kind (length app.types) place kinds) (all : length kinds ≤ place) where
    child_met : (class : ClassParts) (u : ℕ) → Contains app.classes class → IsParent class u → has_kind kinds u ≡ true → has_kind kinds class.name.0 ≡ true
    child_met class u there p h =
        let r = read_of kinds (type_no u) (kind_told kinds u h) in
        w.down r.0 (type_no u) class.name (omega (arith, all, slice_get_within kinds r.0 (type_no u) r.1)) r.1 (record { class = class; there = there; named = refl; parent = p })

    descent : (t v : ℕ) → IsAncestor app.classes t v → has_kind kinds v ≡ true → has_kind kinds t ≡ true
    descent t v (its_parent class there is p) h = rw (← is) (child_met class v there p h)
    descent t v (further {u = u} class there is p rest) h = rw (← is) (child_met class u there p (descent u v rest h))

    met_above : (t v : ℕ) → is_sub app t v ≡ true → has_kind kinds v ≡ true → has_kind kinds t ≡ true
    met_above t v e h = ⊎_elim (λ same. rw same h) (λ anc. descent t v anc h) ((subtypes_told app sound.ranges t v).0 e)

    may_met : (t : ℕ) → May t → has_kind kinds t ≡ true
    unfolding may_be_sub has_unknown_above
    may_met t e = ⊎_elim
        (λ s. met_above t kind s (w.starts kind (inl refl)))
        (λ h. let parts = and_parts (is_none (class_of_type app.classes kind)) _ h in
        let f = any_found (λ v. is_sub app t v && is_unknown app v) (range_with_len 0 (length app.types)) parts.1 in
        let both = and_parts _ _ f.2 in
        met_above t f.0 both.0 (w.starts f.0 (inr (is_nothing (class_of_type app.classes kind) parts.0, from_range (length app.types) f.0 f.1, both.1))))
        (or_cases (is_sub app t kind) _ e)

    pub walked_tells : TellsBelow app kind kinds
    walked_tells class there = same_test (has_kind kinds class.name.0) (may_be app kind class) (w.only class.name.0) (may_met class.name.0)
