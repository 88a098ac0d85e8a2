-- What was built answers as the application's files say.
use Rattle.std.proofs.Common.{◌≡◌, ℕ, zero, suc, ◌<◌, ◌≤◌, ◌||◌, ◌&&◌, Bool, true, false, List, [], ◌∷◌, length, refl, sym, ap, ap₂, ◌∙◌, inl, inr, ⊎_elim, arith, eqb, eq-eqb, Contains, Option, Some, None, option_map, position, slice_get, get_or}
use Rattle.std.specs.Prelude.{◌⊎◌, is_none}
use Rattle.std.specs.List.{list_any, range_with_len}
use Rattle.std.proofs.lemmas.Bool.{and_parts, cases_lt, eqb-true, false≢true, or_cases, or_left, or_right}
use Rattle.std.proofs.lemmas.List.{length-map, take_all}
use Rattle.std.proofs.lemmas.List.FromFn.{get_or-range_with_len, length-range_with_len}
use Rattle.std.proofs.lemmas.Option.{slice_get-get_or, slice_get-map, slice_get_past}
use Rattle.ns_base.specs.declared.rows.TypeNo.{TypeNo}
use Rattle.app_model.specs.Ancestors.{IsAncestor}
use Rattle.app_model.specs.Hierarchy.{class_of_parent, class_of_type, field_in, has_unknown_above, is_sub, is_superclass, is_unknown, line, line_of, lookup_of, may_be_sub, method_in, nearest, or_else, parent_of, resolve_field_of, superclass_at}
use Rattle.app_model.specs.Parts.{AppParts, ClassParts}
use Rattle.app_model.specs.Sound.{IsSoundApp}
use Rattle.app_model.proofs.HierarchyLaws.{subtypes_told}
use Rattle.app_model.proofs.TypeIndex.{class_none}
use Rattle.class_graph.specs.Belongs.{IsClassGraph}
use Rattle.class_graph.specs.Built.{IsBuilt, above_of, has_unknown, is_unknown_parent}
use Rattle.class_graph.specs.Graph.{GraphParts, class_by, class_in, class_of_parent_by, field_by, is_unknown_kind, leads_by, leads_in, line_from, may_be_by, member_in, method_by, stands_by, stands_in, sub_by, superclass_by, superclass_in, unknown_by}
use Rattle.class_graph.specs.Walks.{beside, has_kind}
use Rattle.class_graph.proofs.Beside.{ancestor_below}
use Rattle.class_graph.proofs.Climbs.{ancestor_found, found_ancestor}
use Rattle.class_graph.proofs.Lists.{any_found, any_there, class_known, kind_told, same_test, superclass_told, told_kind, told_superclass}

-- no class has a type that is not there
no_class : (app : AppParts) (t : ℕ) → IsSoundApp app → length app.types ≤ t → None ≡ class_of_type app.classes t
no_class app t sound past =
    class_none app.classes t (λ (k : ℕ) (d : ClassParts) (below : k < length app.classes).
    let inside = (sound.ranges.classes k d below).name in
    λ (same : (get_or app.classes k d).name.0 ≡ t). omega (arith, inside, past, same))

nearest_same : (f g : ℕ → Option ℕ) (xs : List ℕ) → ((c : ℕ) → f c ≡ g c) → nearest f xs ≡ nearest g xs
nearest_same f g [] h = refl
nearest_same f g (c ∷ xs) h = ap₂ or_else (h c) (nearest_same f g xs h)

any_as : (p q : ℕ → Bool) (xs : List ℕ) → ((c : ℕ) → p c ≡ true → q c ≡ true) → list_any p xs ≡ true → list_any q xs ≡ true
any_as p q xs h e = let f = any_found p xs e in any_there q xs f.0 f.1 (h f.0 f.2)

module _ (app : AppParts) (sound : IsSoundApp app) (graph : GraphParts) (built : IsBuilt app graph) where
  abbrev classes : List ClassParts
  classes = app.classes

  -- ---- rows
  class_same : (t : ℕ) → class_by graph.kinds t ≡ class_of_type classes t
  class_same t = ⊎_elim
      (λ (lt : t < length graph.kinds). let e = slice_get-get_or graph.kinds t (record { class = None; unknown = false }) lt in ap class_in e ∙ (built.kinds.each t _ e).class)
      (λ (past : length graph.kinds ≤ t). ap class_in (slice_get_past graph.kinds t past) ∙ no_class app t sound (omega (arith, past, built.kinds.len)))
      (cases_lt t (length graph.kinds))

  above_same : (c : ℕ) → slice_get graph.above c ≡ option_map (above_of app) (slice_get classes c)
  above_same c = ap (λ rows. slice_get rows c) built.above ∙ slice_get-map (above_of app) classes c

  superclass_same : (c : ℕ) → superclass_by graph c ≡ superclass_at classes c
  unfolding superclass_at
  superclass_same c = ap (superclass_in graph.kinds) (above_same c) ∙ go (slice_get classes c)
    where
      parent_same : (parent : Option TypeNo) → class_of_parent_by graph.kinds parent ≡ class_of_parent classes parent
      parent_same None = refl
      parent_same (Some t) = class_same t.0

      go : (o : Option ClassParts) → superclass_in graph.kinds (option_map (above_of app) o) ≡ class_of_parent classes (parent_of o)
      go None = refl
      go (Some class) = parent_same class.parent

  line_same : (n : ℕ) (o : Option ℕ) → line_from graph n o ≡ line classes n o
  line_same zero o = refl
  line_same (suc n) None = refl
  line_same (suc n) (Some c) = ap (λ cs. c ∷ cs) (ap (line_from graph n) (superclass_same c) ∙ line_same n (superclass_at classes c))

  len_same : length graph.above ≡ length classes
  len_same = ap length built.above ∙ length-map classes (above_of app)

  lines : (o : Option ℕ) → line_from graph (length graph.above) o ≡ line classes (length classes) o
  lines o = ap (λ n. line_from graph n o) len_same ∙ line_same (length classes) o

  -- ---- subtypes
  stands_told : (b c : ℕ) (class : ClassParts) → slice_get classes c ≡ Some class → stands_by graph b c ≡ (is_superclass class.parent b || has_kind (beside app class) b)
  stands_told b c class e = ap (λ o. stands_in o b) (above_same c ∙ ap (option_map (above_of app)) e)

  any_stands : (a b : ℕ) → list_any (stands_by graph b) (line_from graph (length graph.above) (class_by graph.kinds a)) ≡ list_any (stands_by graph b) (line classes (length classes) (class_of_type classes a))
  any_stands a b = ap (λ o. list_any (stands_by graph b) (line_from graph (length graph.above) o)) (class_same a) ∙ ap (list_any (stands_by graph b)) (lines (class_of_type classes a))

  sub_same : (a b : ℕ) → sub_by graph a b ≡ is_sub app a b
  sub_same a b =
      let law = subtypes_told app sound.ranges a b in
      same_test _ _
      (λ e. ⊎_elim (λ f. law.1 (inl (eqb-true a b f))) (λ f. law.1 (inr (found_ancestor app sound b (stands_by graph b) (stands_told b) a (sym (any_stands a b) ∙ f)))) (or_cases (eqb a b) _ e))
      (λ e. ⊎_elim (λ same. or_left (eqb a b) _ (eq-eqb a b same)) (λ k. or_right (eqb a b) _ (any_stands a b ∙ ancestor_found app sound b (stands_by graph b) (stands_told b) a k)) (law.0 e))

  -- ---- types of which the files say nothing
  leads_told : (c : ℕ) (class : ClassParts) → slice_get classes c ≡ Some class → leads_by graph c ≡ (is_unknown_parent app class.parent || has_unknown app (beside app class))
  leads_told c class e = ap leads_in (above_same c ∙ ap (option_map (above_of app)) e)

  row_unknown : (t : ℕ) → t < length graph.kinds → is_unknown_kind (slice_get graph.kinds t) ≡ is_unknown app t
  row_unknown t lt = let f = slice_get-get_or graph.kinds t (record { class = None; unknown = false }) lt in ap is_unknown_kind f ∙ (built.kinds.each t _ f).unknown

  unknown_told : (t : ℕ) → is_unknown_kind (slice_get graph.kinds t) ≡ true → (t < length app.types) × (is_unknown app t ≡ true)
  unknown_told t e = ⊎_elim
      (λ (lt : t < length graph.kinds). (omega (arith, lt, built.kinds.len), sym (row_unknown t lt) ∙ e))
      (λ (past : length graph.kinds ≤ t). absurd (false≢true (sym (ap is_unknown_kind (slice_get_past graph.kinds t past)) ∙ e)))
      (cases_lt t (length graph.kinds))

  told_unknown : (t : ℕ) → t < length app.types → is_unknown app t ≡ true → is_unknown_kind (slice_get graph.kinds t) ≡ true
  told_unknown t lt e = row_unknown t (omega (arith, lt, built.kinds.len)) ∙ e

  -- a row leads to what the files say nothing of, where one of its types is such
  leads_there : (u c : ℕ) → is_unknown app u ≡ true → stands_by graph u c ≡ true → leads_by graph c ≡ true
  leads_there u c un e = go (slice_get classes c) refl
    where
      parent : (parent : Option TypeNo) → parent ≡ Some (record { 0 = u }) → is_unknown_parent app parent ≡ true
      parent o f = rw f un

      row : (class : ClassParts) → (is_superclass class.parent u || has_kind (beside app class) u) ≡ true → (is_unknown_parent app class.parent || has_unknown app (beside app class)) ≡ true
      row class f = ⊎_elim
          (λ g. or_left (is_unknown_parent app class.parent) _ (parent class.parent (superclass_told class.parent u g)))
          (λ g. or_right (is_unknown_parent app class.parent) _ (any_there (λ (t : TypeNo). is_unknown app t.0) (beside app class) (record { 0 = u }) (kind_told (beside app class) u g) un))
          (or_cases (is_superclass class.parent u) _ f)

      go : (o : Option ClassParts) → slice_get classes c ≡ o → leads_by graph c ≡ true
      go None f = absurd (false≢true (sym (ap (λ o. stands_in o u) (above_same c ∙ ap (option_map (above_of app)) f)) ∙ e))
      go (Some class) f = leads_told c class f ∙ row class (sym (stands_told u c class f) ∙ e)

  there_leads : (c : ℕ) → leads_by graph c ≡ true → (u : ℕ) × (is_unknown app u ≡ true) × (stands_by graph u c ≡ true)
  there_leads c e = go (slice_get classes c) refl
    where
      parent : (class : ClassParts) → slice_get classes c ≡ Some class → (parent : Option TypeNo) → class.parent ≡ parent → is_unknown_parent app parent ≡ true → (u : ℕ) × (is_unknown app u ≡ true) × (stands_by graph u c ≡ true)
      parent class f None p g = absurd (false≢true g)
      parent class f (Some t) p g = (t.0, g, stands_told t.0 c class f ∙ or_left (is_superclass class.parent t.0) _ (told_superclass class.parent t.0 p))

      kind : (class : ClassParts) → slice_get classes c ≡ Some class → has_unknown app (beside app class) ≡ true → (u : ℕ) × (is_unknown app u ≡ true) × (stands_by graph u c ≡ true)
      kind class f g =
          let h = any_found (λ (t : TypeNo). is_unknown app t.0) (beside app class) g in
          (h.0.0, h.2, stands_told h.0.0 c class f ∙ or_right (is_superclass class.parent h.0.0) _ (told_kind (beside app class) h.0 h.1))

      go : (o : Option ClassParts) → slice_get classes c ≡ o → (u : ℕ) × (is_unknown app u ≡ true) × (stands_by graph u c ≡ true)
      go None f = absurd (false≢true (sym (ap leads_in (above_same c ∙ ap (option_map (above_of app)) f)) ∙ e))
      go (Some class) f = ⊎_elim (parent class f class.parent refl) (kind class f) (or_cases (is_unknown_parent app class.parent) _ (sym (leads_told c class f) ∙ e))

  abbrev all_types : List ℕ
  all_types = range_with_len 0 (length app.types)

  type_there : (u : ℕ) → u < length app.types → Contains all_types u
  type_there u lt = (u, omega (arith, lt, length-range_with_len 0 (length app.types)), let e = get_or-range_with_len 0 (length app.types) u u lt in omega (arith, e))

  there_type : (u : ℕ) → Contains all_types u → u < length app.types
  there_type u (k, lt, is) =
      let len = length-range_with_len 0 (length app.types) in
      let e = get_or-range_with_len 0 (length app.types) k u (omega (arith, lt, len)) in
      omega (arith, lt, len, e, is)

  abbrev test : ℕ → ℕ → Bool
  test t u = is_sub app t u && is_unknown app u

  unknown_same : (t : ℕ) → unknown_by graph t ≡ has_unknown_above app t
  unfolding has_unknown_above
  unknown_same t = same_test _ _ forth back
    where
      found : (u : ℕ) → u < length app.types → ((t ≡ u) ⊎ IsAncestor classes t u) → is_unknown app u ≡ true → list_any (test t) all_types ≡ true
      found u lt k un = any_there (test t) all_types u (type_there u lt) (ap₂ (λ x y. x && y) ((subtypes_told app sound.ranges t u).1 k) un)

      forth : (is_unknown_kind (slice_get graph.kinds t) || list_any (leads_by graph) (line_from graph (length graph.above) (class_by graph.kinds t))) ≡ true → list_any (test t) all_types ≡ true
      forth e = ⊎_elim
          (λ f. let own = unknown_told t f in found t own.0 (inl refl) own.1)
          (λ f.
          let c = any_found (leads_by graph) _ f in
          let u = there_leads c.0 c.2 in
          let k = found_ancestor app sound u.0 (stands_by graph u.0) (stands_told u.0) t (sym (any_stands t u.0) ∙ any_there (stands_by graph u.0) _ c.0 c.1 u.2) in
          found u.0 (ancestor_below app sound t u.0 k) (inr k) u.1)
          (or_cases (is_unknown_kind (slice_get graph.kinds t)) _ e)

      back : list_any (test t) all_types ≡ true → (is_unknown_kind (slice_get graph.kinds t) || list_any (leads_by graph) (line_from graph (length graph.above) (class_by graph.kinds t))) ≡ true
      back e =
          let u = any_found (test t) all_types e in
          let parts = and_parts (is_sub app t u.0) (is_unknown app u.0) u.2 in
          ⊎_elim
          (λ same. or_left (is_unknown_kind (slice_get graph.kinds t)) _ (rw same (told_unknown u.0 (there_type u.0 u.1) parts.1)))
          (λ k. or_right (is_unknown_kind (slice_get graph.kinds t)) _
          (any_as (stands_by graph u.0) (leads_by graph) _ (λ c g. leads_there u.0 c parts.1 g) (any_stands t u.0 ∙ ancestor_found app sound u.0 (stands_by graph u.0) (stands_told u.0) t k)))
          ((subtypes_told app sound.ranges t u.0).0 parts.0)

  may_be_same : (t c : ℕ) → may_be_by graph t c ≡ may_be_sub app (Some t) c
  unfolding may_be_sub
  may_be_same t c = ap₂ (λ x y. x || y) (sub_same t c) (ap₂ (λ x y. x && y) (ap is_none (class_same c)) (unknown_same t))

  -- ---- members
  method_found : (name proto c : ℕ) → member_in graph.methods name proto c ≡ method_in app name proto c
  unfolding method_in
  method_found name proto c = built.methods name proto c ∙ ap (position _) (take_all (length app.methods) app.methods (omega arith))

  field_found : (name kind c : ℕ) → member_in graph.fields name kind c ≡ field_in app name kind c
  unfolding field_in
  field_found name kind c = built.fields name kind c ∙ ap (position _) (take_all (length app.fields) app.fields (omega arith))

  method_same : (c : ℕ) (class : ClassParts) (name proto : ℕ) → slice_get classes c ≡ Some class → method_by graph c name proto ≡ lookup_of app class.name.0 name proto
  unfolding lookup_of line_of
  method_same c class name proto e =
      nearest_same _ _ (line_from graph (length graph.above) (Some c)) (method_found name proto)
      ∙ ap (nearest (method_in app name proto)) (lines (Some c) ∙ ap (line classes (length classes)) (sym (class_known app sound c class e)))

  field_same : (t name kind : ℕ) → field_by graph t name kind ≡ resolve_field_of app t name kind
  unfolding resolve_field_of line_of
  field_same t name kind =
      nearest_same _ _ (line_from graph (length graph.above) (class_by graph.kinds t)) (field_found name kind)
      ∙ ap (nearest (field_in app name kind)) (lines (class_by graph.kinds t) ∙ ap (line classes (length classes)) (class_same t))

  pub answers_so : IsClassGraph app graph
  answers_so = record { subtypes = sub_same; maybe = may_be_same; methods = method_same; fields = field_same }
