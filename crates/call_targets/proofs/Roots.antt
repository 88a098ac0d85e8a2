-- Roots and tops of the classes that were met, and the candidates of a look-up.
use Rattle.std.proofs.Common.{◌≡◌, ℕ, ◌+◌, ◌<◌, ◌||◌, Bool, true, false, List, [], ◌∷◌, ◌++◌, length, refl, sym, ap, ap₂, ◌∙◌, inl, inr, ⊎_elim, arith, take, drop, get_or, Contains, Option, Some, None, append_assoc, subst, cond, option_map, slice_get}
use Rattle.std.specs.Prelude.{◌⊎◌, not, is_none, filter_map}
use Rattle.std.specs.List.{cons_option, filter}
use Rattle.std.specs.Option.{unwrap_or}
use Rattle.std.proofs.lemmas.Bool.{cases_Bool, false≢true, or_left, or_right}
use Rattle.std.proofs.lemmas.List.{append-nil, take-append-drop, take_all, take_more}
use Rattle.std.proofs.lemmas.List.Elements.{Contains-append_cases, Contains-append_left, Contains-append_right, filter_map-append, filter_more}
use Rattle.ns_base.specs.declared.rows.ClassNo.{ClassNo}
use Rattle.ns_base.specs.declared.rows.TypeNo.{TypeNo}
use Rattle.app_model.specs.Hierarchy.{class_of_type, method_in, parent_of, superclass_at}
use Rattle.app_model.specs.Parts.{AppParts, ClassParts}
use Rattle.app_model.specs.Sound.{IsSoundApp}
use Rattle.class_graph.specs.Walks.{has_kind}
use Rattle.class_graph.proofs.Climbs.{step_up}
use Rattle.class_graph.proofs.Lists.{class_found, class_known, kind_told, there_at, told_kind}
use Rattle.call_targets.specs.Below.{BelowParts, IsBelow, IsReady, class_at, class_no, is_met_class, is_met_row, is_root, root_from, top_from, tops_of, with_some}
use Rattle.call_targets.specs.Looking.{AreCandidates, AreEnough, EndsOutside, look_at}
use Rattle.call_targets.specs.Signatures.{AreDeclared, classes_in}
use Rattle.call_targets.specs.declared.declared.Signature.{Signature}
use Rattle.std.specs.declared.alloc.Global.{Global}
use Rattle.std.specs.declared.vec.Vec.{Vec}
use Rattle.call_targets.proofs.Look.{declared_at}
use Rattle.call_targets.proofs.Members.{from_filter, from_some, in_filter, in_some}

pub class_told : (x : Option ClassNo) (o : Option ℕ) → option_map (λ (c : ClassNo). c.0) x ≡ o → x ≡ option_map class_no o
class_told None o e = rw (← e) refl
class_told (Some c) o e = rw (← e) refl

-- ---- one more class that passes a test, or does not
pub passed_on : (roots xs : List ClassNo) (p : ClassNo → Bool) (i : ℕ) (d : ClassNo) → i < length xs → p (get_or xs i d) ≡ true → roots ++ filter p (take (i + 1) xs) ≡ (roots ++ filter p (take i xs)) ++ get_or xs i d ∷ []
passed_on roots xs p i d lt e = ap (λ ys. roots ++ ys) (filter_more p xs i d lt ∙ rw e refl) ∙ sym (append_assoc roots (filter p (take i xs)) (get_or xs i d ∷ []))

pub passed_over : (roots xs : List ClassNo) (p : ClassNo → Bool) (i : ℕ) (d : ClassNo) → i < length xs → p (get_or xs i d) ≡ false → roots ++ filter p (take (i + 1) xs) ≡ roots ++ filter p (take i xs)
passed_over roots xs p i d lt e = ap (λ ys. roots ++ ys) (filter_more p xs i d lt ∙ rw e (append-nil (filter p (take i xs))))

pub next_some : (from : TypeNo → Option ClassNo) (kinds ks : List TypeNo) (i : ℕ) (d : TypeNo) (o : Option ClassNo) (old new : List ClassNo) → ks ≡ kinds → i < length ks → o ≡ from (get_or ks i d) → old ≡ filter_map from (take i kinds)
    → new ≡ with_some old o → new ≡ filter_map from (take (i + 1) kinds)
next_some from kinds ks i d o old new same lt is before e =
    e ∙ end old o ∙ ap₂ (λ (xs : List ClassNo) (p : Option ClassNo). xs ++ cons_option p []) before is ∙ sym (filter_map-append from (take i kinds) (get_or ks i d ∷ []))
    ∙ ap (filter_map from) (ap (λ xs. take i kinds ++ get_or xs i d ∷ []) same ∙ sym (take_more kinds i d (rw (← same) lt)))
  where
    end : (cs : List ClassNo) (p : Option ClassNo) → with_some cs p ≡ cs ++ cons_option p []
    end cs None = sym (append-nil cs)
    end cs (Some c) = refl

-- ---- what passes a test of classes given as options
passed : (test : ClassNo → Bool) (from : Option ClassNo → Option ClassNo) → from None ≡ None → ((c : ClassNo) → from (Some c) ≡ cond (test c) (Some c) None) → (o : Option ClassNo) (c : ClassNo) → from o ≡ Some c → o ≡ Some c
passed test from none some None c e = absurd (let f = none in cc)
passed test from none some (Some d) c e = by (test d) refl
  where
    by : (b : Bool) → test d ≡ b → Some d ≡ Some c
    by true f = sym (some d ∙ rw f refl) ∙ e
    by false f = absurd (let g : from (Some d) ≡ None = some d ∙ rw f refl in cc)

module _ (app : AppParts) (sound : IsSoundApp app) (kind : ℕ) (below : BelowParts) (ready : IsReady app kind below) where
  abbrev kinds : List TypeNo
  kinds = below.walk.kinds

  abbrev Below : ℕ → Type 0
  Below c = IsBelow app kind c

  met_below : (t : TypeNo) (c : ClassNo) → Contains kinds t → class_at app t ≡ Some c → Below c.0
  met_below t c there e =
      let found = class_found app.classes t.0 c.0 (known (class_of_type app.classes t.0) e) in
      record { class = found.0; there = found.1; may = sym (ready.tells found.0 (there_at app.classes c.0 found.0 found.1)) ∙ rw found.2 (told_kind kinds t there) }
    where
      known : (o : Option ℕ) → option_map class_no o ≡ Some c → o ≡ Some c.0
      known None f = absurd (cc f)
      known (Some k) f = let g : class_no k ≡ c = cc in ap Some (ap (λ (x : ClassNo). x.0) g)

  below_met : (c : ℕ) (b : Below c) → Contains kinds b.class.name × (class_at app b.class.name ≡ Some (class_no c))
  below_met c b = (
    kind_told kinds b.class.name.0 (ready.tells b.class (there_at app.classes c b.class b.there) ∙ b.may),
    ap (option_map class_no) (class_known app sound c b.class b.there),
  )

  root_below : (c : ClassNo) → Contains below.roots c → Below c.0
  root_below c h =
      let f = from_some (λ t. root_from app kinds below.few (class_at app t)) kinds c (subst (λ cs. Contains cs c) ready.roots h) in
      met_below f.0 c f.1 (passed (is_root app kinds below.few) (root_from app kinds below.few) refl (λ d. refl) (class_at app f.0) c f.2)

  is_top : ClassNo → Bool
  is_top c = is_none (superclass_at app.classes c.0)

  top_below : (c : ClassNo) → Contains below.tops c → Below c.0
  top_below c h = by (below.few || is_none (class_of_type app.classes kind)) (subst (λ cs. Contains cs c) ready.tops h)
    where
      by : (b : Bool) → Contains (cond b [] (tops_of app kinds)) c → Below c.0
      by true i = absurd (omega (arith, i.1))
      by false i =
          let f = from_some (λ t. top_from app (class_at app t)) kinds c i in
          met_below f.0 c f.1 (passed (λ d. is_none (superclass_at app.classes d.0)) (top_from app) refl (λ d. refl) (class_at app f.0) c f.2)

  has_root : (c : ℕ) → Below c → is_root app kinds below.few (class_no c) ≡ true → Contains below.roots (class_no c)
  has_root c b e = let m = below_met c b in
      subst (λ cs. Contains cs (class_no c)) (sym ready.roots) (in_some (λ t. root_from app kinds below.few (class_at app t)) kinds b.class.name (class_no c) m.0 (rw m.1 (rw e refl)))

  few_root : (c : ℕ) → Below c → below.few ≡ true → Contains below.roots (class_no c)
  few_root c b e = has_root c b (or_left below.few _ e)

  high_root : (c d : ℕ) → Below c → superclass_at app.classes c ≡ Some d → (Below d → ⊥) → Contains below.roots (class_no c)
  high_root c d b e off =
      let s = step_up app sound c d e in
      let found = class_found app.classes s.2.0 d s.4 in
      let own : parent_of (slice_get app.classes c) ≡ Some s.2 = ap parent_of s.1 ∙ s.3 in
      has_root c b (or_right below.few _ (rw (e, own) (⊎_elim
      (λ on. absurd (off (record { class = found.0; there = found.1; may = sym (ready.tells found.0 (there_at app.classes d found.0 found.1)) ∙ rw found.2 on })))
      (λ no. ap not no) (cases_Bool (has_kind kinds s.2.0)))))

  has_top : (c : ℕ) → Below c → superclass_at app.classes c ≡ None → (below.few || is_none (class_of_type app.classes kind)) ≡ false → Contains below.tops (class_no c)
  has_top c b e off = let m = below_met c b in
      subst (λ cs. Contains cs (class_no c)) (sym (ready.tops ∙ rw off refl)) (in_some (λ t. top_from app (class_at app t)) kinds b.class.name (class_no c) m.0 (rw m.1 (rw e refl)))

  met_is : (d : ClassNo) → is_met_class app kinds d ≡ true → Below d.0
  met_is d e = by (slice_get app.classes d.0) refl e
    where
      by : (o : Option ClassParts) → slice_get app.classes d.0 ≡ o → is_met_row kinds o ≡ true → Below d.0
      by None f h = absurd (false≢true h)
      by (Some class) f h = record { class = class; there = f; may = sym (ready.tells class (there_at app.classes d.0 class f)) ∙ h }

  is_met_at : (c : ℕ) → Below c → is_met_class app kinds (class_no c) ≡ true
  is_met_at c b = ap (is_met_row kinds) b.there ∙ ready.tells b.class (there_at app.classes c b.class b.there) ∙ b.may

  -- ---- the candidates
  module _ (name proto : ℕ) (lists : List (Signature × Vec ClassNo Global)) (declared : AreDeclared app (length app.methods) lists) (n : ℕ) (enough : AreEnough app name proto below.tops n) where
    abbrev those : List ClassNo
    those = filter (is_met_class app kinds) (classes_in lists name proto)

    abbrev tried : List ClassNo
    tried = below.roots ++ cond below.few [] those

    front : (d : ClassNo) → Contains (take n below.tops) d → Contains below.tops d
    front d h = subst (λ cs. Contains cs d) (take-append-drop n below.tops) (Contains-append_left (take n below.tops) (drop n below.tops) d h)

    each : (d : ClassNo) → Contains (tried ++ take n below.tops) d → Below d.0
    each d h = ⊎_elim
        (λ l. ⊎_elim (root_below d) (met below.few) (Contains-append_cases below.roots (cond below.few [] those) d l))
        (λ r. top_below d (front d r))
        (Contains-append_cases tried (take n below.tops) d h)
      where
        met : (b : Bool) → Contains (cond b [] those) d → Below d.0
        met true i = absurd (omega (arith, i.1))
        met false i = met_is d (from_filter (is_met_class app kinds) (classes_in lists name proto) d i).1

    rooted : (d : ClassNo) → Contains below.roots d → Contains (tried ++ take n below.tops) d
    rooted d h = Contains-append_left tried (take n below.tops) d (Contains-append_left below.roots (cond below.few [] those) d h)

    own : (c k : ℕ) → Below c → method_in app name proto c ≡ Some k → Contains (tried ++ take n below.tops) (class_no c)
    own c k b e = ⊎_elim (λ few. rooted (class_no c) (few_root c b few))
        (λ many. let d = declared_at app lists declared name proto c k e in
        Contains-append_left tried (take n below.tops) (class_no c) (Contains-append_right below.roots (cond below.few [] those) (class_no c) (rw many (in_filter (is_met_class app kinds) (classes_in lists name proto) (class_no c)
        (subst (λ l. Contains l (class_no c)) (ap (λ (o : Option (List ClassNo)). unwrap_or o []) (sym d.1)) d.2) (is_met_at c b)))))
        (cases_Bool below.few)

    ends : (c : ℕ) → Below c → superclass_at app.classes c ≡ None → look_at app name proto (class_no c) ≡ None → (class_of_type app.classes kind ≡ None) ⊎ EndsOutside app name proto (tried ++ take n below.tops)
    ends c b e h = by (class_of_type app.classes kind) refl (cases_Bool below.few)
      where
        by : (o : Option ℕ) → class_of_type app.classes kind ≡ o → (below.few ≡ true) ⊎ (below.few ≡ false) → (o ≡ None) ⊎ EndsOutside app name proto (tried ++ take n below.tops)
        by None f few = inl refl
        by (Some k) f (inl few) = inr (record { class = class_no c; there = rooted (class_no c) (few_root c b few); finds = h })
        by (Some k) f (inr many) =
            let top = has_top c b e (rw (many, f) refl) in
            inr (⊎_elim
            (λ all. record { class = class_no c; there = Contains-append_right tried (take n below.tops) (class_no c) (rw (take_all n below.tops (omega (arith, all))) top); finds = h })
            (λ (o : EndsOutside app name proto (take n below.tops)). record { class = o.class; there = Contains-append_right tried (take n below.tops) o.class o.there; finds = o.finds })
            enough)

    pub candidates_in : AreCandidates app kind name proto (tried ++ take n below.tops)
    candidates_in = record { each = each; declared = own; roots = λ c d b e off. rooted (class_no c) (high_root c d b e off); tops = ends }
