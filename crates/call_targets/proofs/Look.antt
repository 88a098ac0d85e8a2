-- What a source finds is what the call can call.
use Rattle.std.proofs.Common.{◌≡◌, ℕ, ◌<◌, ◌||◌, ◌&&◌, Bool, true, false, List, [], ◌∷◌, ◌++◌, length, map, refl, sym, ap, ap₂, ◌∙◌, inl, inr, ⊎_elim, eq-eqb, Contains, Option, Some, None, is_some, option_map, get_or, subst}
use Rattle.std.specs.Prelude.{◌⊎◌, if◌then◌else◌, is_none, not}
use Rattle.std.specs.List.{list_any, range_with_len}
use Rattle.std.specs.declared.alloc.Global.{Global}
use Rattle.std.specs.declared.vec.Vec.{Vec}
use Rattle.std.proofs.lemmas.Bool.{and_parts, eqb-true, false≢true, or_cases, or_left, or_right}
use Rattle.std.proofs.lemmas.List.Elements.{filter_agree}
use Rattle.std.proofs.lemmas.List.Quantifiers.{position-Some}
use Rattle.std.proofs.lemmas.Option.{slice_get-get_or}
use Rattle.ns_base.specs.declared.rows.ClassNo.{ClassNo}
use Rattle.app_model.specs.declared.calls.By.{By}
use Rattle.app_model.specs.declared.rows.MethodRow.{MethodRow}
use Rattle.app_model.specs.declared.rows.Named.{Named}
use Rattle.app_model.specs.Hierarchy.{class_of_type, has_unknown_above, is_sub, is_unknown, line, line_of, lookup_of, may_be_sub, method_in, nearest, or_else}
use Rattle.app_model.specs.Parts.{AppParts, ClassParts}
use Rattle.app_model.specs.Sound.{IsSoundApp}
use Rattle.app_model.specs.Targets.{call_by, found_by, found_of, found_virtually, is_foreign, row_of, targets_of_call}
use Rattle.class_graph.proofs.Climbs.{no_line}
use Rattle.class_graph.proofs.Lists.{any_there, class_found, same_test, there_at}
use Rattle.call_targets.specs.Below.{class_no, may_be}
use Rattle.call_targets.specs.Signatures.{AreDeclared, classes_with}
use Rattle.call_targets.specs.Sources.{found_from, named_parts, row_from}
use Rattle.call_targets.specs.declared.declared.Signature.{Signature}
use Rattle.call_targets.specs.declared.sources.Source.{Source}
use Rattle.call_targets.specs.Laws.{Receives}
use Rattle.call_targets.proofs.Receivers.{begun, found_told}
use Rattle.call_targets.proofs.Members.{in_range, row_same}

-- ---- rows
pub foreign_row : (app : AppParts) (m op : ℕ) (named : Named) (source : Source) → is_foreign app op named ≡ true → found_from app source ≡ None ∷ [] → row_from app source ≡ targets_of_call app m op named
unfolding row_from targets_of_call found_of
foreign_row app m op named source f w = ap (row_of (length app.methods)) w ∙ rw f refl

pub plain_row : (app : AppParts) (m op : ℕ) (named : Named) (source : Source) (by : By) → is_foreign app op named ≡ false → by ≡ call_by op
    → row_from app source ≡ row_of (length app.methods) (found_by app m by named) → row_from app source ≡ targets_of_call app m op named
unfolding targets_of_call found_of
plain_row app m op named source by f b e = e ∙ rw (f, ← b) refl

pub row_found : (app : AppParts) (source : Source) (found : List (Option ℕ)) → found_from app source ≡ found → row_from app source ≡ row_of (length app.methods) found
unfolding row_from
row_found app source found e = ap (row_of (length app.methods)) e

-- ---- look-ups
nearest_none : (f : ℕ → Option ℕ) → ((c : ℕ) → f c ≡ None) → (cs : List ℕ) → nearest f cs ≡ None
nearest_none f h [] = refl
nearest_none f h (c ∷ cs) = ap₂ or_else (h c) (nearest_none f h cs)

pub look_none : (app : AppParts) (t name proto : ℕ) → IsSoundApp app → class_of_type app.classes t ≡ None → lookup_of app t name proto ≡ None
unfolding lookup_of line_of
look_none app t name proto sound e = ap (λ o. nearest (method_in app name proto) (line app.classes (length app.classes) o)) e ∙ ap (nearest (method_in app name proto)) (no_line app sound (length app.classes))

not_true : (b : Bool) → not b ≡ true → b ≡ false
not_true true e = sym e
not_true false e = refl

-- the classes that declare a method stand under its name and prototype
pub declared_at : (app : AppParts) (lists : List (Signature × Vec ClassNo Global)) → AreDeclared app (length app.methods) lists → (name proto c n : ℕ) → method_in app name proto c ≡ Some n
    → (list : List ClassNo) × (classes_with lists name proto ≡ Some list) × Contains list (class_no c)
unfolding method_in
declared_at app lists all name proto c n e =
    let blank : MethodRow = record { class = record { 0 = 0 }; name = record { 0 = 0 }; proto = record { 0 = 0 }; flags = 0; registers = 0; ins = 0 } in
    let p = position-Some _ app.methods n blank e in
    let row = get_or app.methods n blank in
    let class = and_parts _ _ p.1 in
    let named = and_parts _ _ class.1 in
    let typed = and_parts _ _ named.1 in
    let listed = all n row p.0 (slice_get-get_or app.methods n blank p.0) (not_true _ typed.1) in
    let name_is : row.name.0 ≡ name = eqb-true row.name.0 name named.0 in
    let proto_is : row.proto.0 ≡ proto = eqb-true row.proto.0 proto typed.0 in
    (listed.list, ap₂ (classes_with lists) (sym name_is) (sym proto_is) ∙ listed.is, subst (Contains listed.list) (same row.class c (eqb-true row.class.0 c class.0)) listed.has)
  where
    same : (k : ClassNo) (c : ℕ) → k.0 ≡ c → ◌≡◌ {A = ClassNo} k (class_no c)
    same k c e = rw (← e) refl

pub may_itself : (app : AppParts) (t : ℕ) → may_be_sub app (Some t) t ≡ true
unfolding may_be_sub is_sub
may_itself app t = or_left _ _ (or_left _ _ (eq-eqb t t refl))

module _ (app : AppParts) (lists : List (Signature × Vec ClassNo Global)) (all : AreDeclared app (length app.methods) lists) (sound : IsSoundApp app) where
  module _ (named : Named) (none : classes_with lists named.name.0 named.proto.0 ≡ None) where
    undeclared : (c : ℕ) → method_in app named.name.0 named.proto.0 c ≡ None
    undeclared c = by (method_in app named.name.0 named.proto.0 c) refl
      where
        by : (o : Option ℕ) → method_in app named.name.0 named.proto.0 c ≡ o → method_in app named.name.0 named.proto.0 c ≡ None
        by None e = e
        by (Some n) e = absurd (let d = declared_at app lists all named.name.0 named.proto.0 c n e in let f : ◌≡◌ {A = Option (List ClassNo)} None (Some d.0) = sym none ∙ d.1 in cc)

    look_undeclared : (t : ℕ) → lookup_of app t named.name.0 named.proto.0 ≡ None
    unfolding lookup_of
    look_undeclared t = nearest_none _ undeclared (line_of app.classes t)

    -- where no class declares it, a call leads outside alone
    pub undeclared_row : (m : ℕ) → row_of (length app.methods) (None ∷ []) ≡ row_of (length app.methods) (found_virtually app m named)
    undeclared_row m = row_same (length app.methods) (None ∷ []) (found_virtually app m named) (λ o. (forth o, back o))
      where
        from : (k : Option ℕ) → class_of_type app.classes named.class.0 ≡ k → ((class_of_type app.classes named.class.0 ≡ None) × (◌≡◌ {A = Option ℕ} None None)) ⊎ Receives app named None
        from None e = inl (e, refl)
        from (Some k) e =
            let found = class_found app.classes named.class.0 k e in
            inr (record { class = found.0; there = there_at app.classes k found.0 found.1; may = subst (λ t. may_be_sub app (Some t) named.class.0 ≡ true) (sym found.2) (may_itself app named.class.0); finds = look_undeclared found.0.name.0 })

        forth : (o : Option ℕ) → Contains (None ∷ []) o → Contains (found_virtually app m named) o
        forth o h = let e = ((begun None o).0 h).1 in rw e ((found_told app m named None).1 (from (class_of_type app.classes named.class.0) refl))

        back : (o : Option ℕ) → Contains (found_virtually app m named) o → Contains (None ∷ []) o
        back o h = (begun None o).1 (refl, ⊎_elim (λ l. l.1) (λ r. sym r.finds ∙ look_undeclared r.class.name.0) ((found_told app m named o).0 h))

-- ---- types of which the files say nothing
may_unknown : (app : AppParts) (t k : ℕ) → k < length app.types → is_unknown app k ≡ true → may_be_sub app (Some t) k ≡ has_unknown_above app t
unfolding may_be_sub has_unknown_above
may_unknown app t k lt e = same_test _ _ forth back
  where
    forth : (is_sub app t k || (is_none (class_of_type app.classes k) && has_unknown_above app t)) ≡ true → list_any (λ u. is_sub app t u && is_unknown app u) (range_with_len 0 (length app.types)) ≡ true
    forth h = ⊎_elim
        (λ (s : is_sub app t k ≡ true).
        any_there (λ u. is_sub app t u && is_unknown app u) (range_with_len 0 (length app.types)) k (in_range (length app.types) k lt) (ap (λ b. b && is_unknown app k) s ∙ e))
        (λ s. (and_parts _ _ s).1)
        (or_cases (is_sub app t k) (is_none (class_of_type app.classes k) && has_unknown_above app t) h)

    back : list_any (λ u. is_sub app t u && is_unknown app u) (range_with_len 0 (length app.types)) ≡ true → (is_sub app t k || (is_none (class_of_type app.classes k) && has_unknown_above app t)) ≡ true
    back h = let own : is_none (class_of_type app.classes k) ≡ true = (and_parts _ _ e).0 in or_right (is_sub app t k) _ (rw own h)

pub unknown_same : (app : AppParts) (m a b name proto : ℕ) → a < length app.types → b < length app.types → is_unknown app a ≡ true → is_unknown app b ≡ true
    → found_virtually app m (named_parts a name proto) ≡ found_virtually app m (named_parts b name proto)
unknown_same app m a b name proto la lb ea eb =
    ap₂ (λ (start : Bool) (cs : List ClassParts). (if start then None ∷ [] else []) ++ map (λ (class : ClassParts). lookup_of app class.name.0 name proto) cs)
    ((and_parts _ _ ea).0 ∙ sym (and_parts _ _ eb).0)
    (filter_agree (may_be app a) (may_be app b) (λ class. may_unknown app class.name.0 a la ea ∙ sym (may_unknown app class.name.0 b lb eb)) app.classes)

pub map_none : {X Y : Type 0} (f : X → Y) (o : Option X) → is_some o ≡ false → option_map f o ≡ None
map_none f None e = refl
map_none f (Some x) e = absurd (false≢true (sym e))
