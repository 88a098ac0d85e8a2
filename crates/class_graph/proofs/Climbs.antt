-- The classes above one are fewer than there are classes, and what stands above a type is found on the way up.
use Rattle.std.proofs.Common.{◌≡◌, ℕ, zero, suc, ◌<◌, ◌≤◌, ◌||◌, Bool, true, false, List, [], ◌∷◌, length, refl, sym, ap, ◌∙◌, subst, inl, inr, ⊎_elim, arith, eqb, Contains, Option, Some, None, slice_get}
use Rattle.std.specs.List.{AllByRecursion, IsDistinct, list_any}
use Rattle.std.proofs.lemmas.Bool.{cases_Bool, eqb-true, false≢true, or_cases, or_left, or_right}
use Rattle.std.proofs.lemmas.Map.Steps.{length-le_from_distinct_below}
use Rattle.std.proofs.lemmas.Option.{slice_get_within}
use Rattle.ns_base.specs.declared.rows.TypeNo.{TypeNo}
use Rattle.app_model.specs.Ancestors.{IsAncestor, IsParent, its_parent, further}
use Rattle.app_model.specs.Hierarchy.{class_of_parent, class_of_type, is_superclass, line, parent_of, superclass_at}
use Rattle.app_model.specs.Parts.{AppParts, ClassParts}
use Rattle.app_model.specs.Sound.{IsSoundApp}
use Rattle.class_graph.specs.Walks.{beside, has_kind}
use Rattle.class_graph.proofs.Beside.{IsBeside, beside_told, one_further}
use Rattle.class_graph.proofs.Lists.{class_found, class_known, read_of, superclass_told, there_at, told_superclass}

module _ (app : AppParts) (sound : IsSoundApp app) where
  abbrev classes : List ClassParts
  classes = app.classes

  -- ---- the line of a class
  pub superclass_is : (c : ℕ) (class : ClassParts) → slice_get classes c ≡ Some class → superclass_at classes c ≡ class_of_parent classes class.parent
  unfolding superclass_at
  superclass_is c class e = ap (λ o. class_of_parent classes (parent_of o)) e

  pub no_line : (n : ℕ) → line classes n None ≡ []
  no_line zero = refl
  no_line (suc n) = refl

  -- a step up: the class, its superclass, and the class of that
  pub step_up : (c d : ℕ) → superclass_at classes c ≡ Some d
      → (class : ClassParts) × (slice_get classes c ≡ Some class) × (parent : TypeNo) × (class.parent ≡ Some parent) × (class_of_type classes parent.0 ≡ Some d)
  unfolding superclass_at
  step_up c d e = at (slice_get classes c) refl e
    where
      up : (class : ClassParts) → slice_get classes c ≡ Some class → (parent : Option TypeNo) → class.parent ≡ parent → class_of_parent classes parent ≡ Some d
          → (own : ClassParts) × (slice_get classes c ≡ Some own) × (parent : TypeNo) × (own.parent ≡ Some parent) × (class_of_type classes parent.0 ≡ Some d)
      up class f None p g = absurd (cc)
      up class f (Some t) p g = (class, f, t, p, g)

      at : (o : Option ClassParts) → slice_get classes c ≡ o → class_of_parent classes (parent_of o) ≡ Some d
          → (own : ClassParts) × (slice_get classes c ≡ Some own) × (parent : TypeNo) × (own.parent ≡ Some parent) × (class_of_type classes parent.0 ≡ Some d)
      at None f g = absurd (cc)
      at (Some class) f g = up class f class.parent refl g

  -- class d is of a type above t
  abbrev Up : ℕ → ℕ → Type 0
  Up t d = (class : ClassParts) × (slice_get classes d ≡ Some class) × IsAncestor classes t class.name.0

  -- what holds on each step up holds along the line
  each_up : (P : ℕ → Type 0) → ((c d : ℕ) → P c → superclass_at classes c ≡ Some d → P d) → (n : ℕ) (o : Option ℕ) → ((d : ℕ) → o ≡ Some d → P d) → AllByRecursion P (line classes n o)
  each_up P up zero o h = tt
  each_up P up (suc n) None h = tt
  each_up P up (suc n) (Some c) h = (h c refl, each_up P up n (superclass_at classes c) (λ d. up c d (h c refl)))

  next_up : (t c d : ℕ) → Up t c → superclass_at classes c ≡ Some d → Up t d
  next_up t c d own f =
      let s = step_up c d f in
      let same : own.0 ≡ s.0 = (let a = own.1 in let b = s.1 in cc) in
      let found = class_found classes s.2.0 d s.4 in
      (found.0, found.1, rw found.2 (one_further classes own.0 t own.0.name.0 s.2.0 own.2 refl (there_at classes c own.0 own.1) (inl (rw same s.3))))

  abbrev Within : Option ℕ → Type 0
  Within o = (d : ℕ) → o ≡ Some d → d < length classes

  pub within_type : (t : ℕ) → Within (class_of_type classes t)
  within_type t d e = let found = class_found classes t d e in slice_get_within classes d found.0 found.1

  all_any : (P : ℕ → Type 0) (xs : List ℕ) → AllByRecursion P xs → (q : ℕ) → list_any (eqb q) xs ≡ true → P q
  all_any P [] h q e = absurd (false≢true e)
  all_any P (x ∷ xs) h q e = ⊎_elim (λ f. subst P (sym (eqb-true q x f)) h.0) (λ f. all_any P xs h.1 q f) (or_cases (eqb q x) _ e)

  all_as : (P Q : ℕ → Type 0) (xs : List ℕ) → ((d : ℕ) → P d → Q d) → AllByRecursion P xs → AllByRecursion Q xs
  all_as P Q [] f h = tt
  all_as P Q (x ∷ xs) f h = (f x h.0, all_as P Q xs f h.1)

  -- no class stands above itself
  others : (n c : ℕ) → AllByRecursion (λ d. eqb c d ≡ false) (line classes n (superclass_at classes c))
  others n c = at (superclass_at classes c) refl
    where
      at : (o : Option ℕ) → superclass_at classes c ≡ o → AllByRecursion (λ d. eqb c d ≡ false) (line classes n o)
      at None e = rw (no_line n) tt
      at (Some d) e =
          let s = step_up c d e in
          let there = there_at classes c s.0 s.1 in
          let found = class_found classes s.2.0 d s.4 in
          all_as (Up s.0.name.0) (λ d. eqb c d ≡ false) (line classes n (Some d))
          (λ x up. ⊎_elim
          (λ same. absurd (let is : up.0 ≡ s.0 = (let a = up.1 in let b = s.1 in let f = eqb-true c x same in cc) in
          sound.acyclic c s.0 s.1 (subst (λ (k : ClassParts). IsAncestor classes s.0.name.0 k.name.0) is up.2)))
          (λ off. off) (cases_Bool (eqb c x)))
          (each_up (Up s.0.name.0) (next_up s.0.name.0) n (Some d)
          (λ x f. let same : d ≡ x = cc in rw (← same) (found.0, found.1, its_parent {u = found.0.name.0} s.0 there refl (inl (rw found.2 s.3)))))

  distinct : (n : ℕ) (o : Option ℕ) → IsDistinct eqb (line classes n o)
  unfolding IsDistinct
  distinct zero o = tt
  distinct (suc n) None = tt
  distinct (suc n) (Some c) = (others n c, distinct n (superclass_at classes c))

  pub short : (k : ℕ) (o : Option ℕ) → length (line classes (suc k) o) ≤ k → line classes (suc k) o ≡ line classes k o
  short zero None le = refl
  short zero (Some c) le = absurd (omega arith)
  short (suc k) None le = refl
  short (suc k) (Some c) le = ap (λ cs. c ∷ cs) (short k (superclass_at classes c) (omega arith))

  -- so many steps are enough
  pub enough : (o : Option ℕ) → Within o → line classes (suc (length classes)) o ≡ line classes (length classes) o
  enough o h =
      short (length classes) o
      (length-le_from_distinct_below _ (length classes) (distinct (suc (length classes)) o) (all_any (λ d. d < length classes) _ (each_up (λ d. d < length classes) (λ c d lt e. let s = step_up c d e in within_type s.2.0 d s.4) (suc (length classes)) o h)))

  -- ---- a test of classes that tells whether b is a parent of one, or stands above an interface of it
  module _ (b : ℕ) (test : ℕ → Bool) (told : (c : ℕ) (class : ClassParts) → slice_get classes c ≡ Some class → test c ≡ (is_superclass class.parent b || has_kind (beside app class) b)) where
    abbrev any_above : ℕ → Type 0
    any_above t = list_any test (line classes (length classes) (class_of_type classes t)) ≡ true

    here : (t c : ℕ) → class_of_type classes t ≡ Some c → (test c || list_any test (line classes (length classes) (superclass_at classes c))) ≡ true → any_above t
    here t c e h = ap (λ o. list_any test (line classes (length classes) o)) e ∙ ap (list_any test) (sym (enough (Some c) (λ d f. within_type t d (e ∙ f)))) ∙ h

    pub ancestor_found : (t : ℕ) → IsAncestor classes t b → any_above t
    ancestor_found t (its_parent class there is p) =
        let r = read_of classes class there in
        here t r.0 (rw (← is) (class_known app sound r.0 class r.1)) (or_left (test r.0) _ (told r.0 class r.1 ∙ parent p))
      where
        parent : IsParent class b → (is_superclass class.parent b || has_kind (beside app class) b) ≡ true
        parent (inl e) = or_left (is_superclass class.parent b) _ (told_superclass class.parent b e)
        parent (inr c) = or_right (is_superclass class.parent b) _ ((beside_told app sound class b there).1 (record { 0 = b }, c, inl refl))
    ancestor_found t (further {u = u} class there is (inl p) rest) =
        let r = read_of classes class there in
        let up : superclass_at classes r.0 ≡ class_of_type classes u = superclass_is r.0 class r.1 ∙ ap (class_of_parent classes) p in
        here t r.0 (rw (← is) (class_known app sound r.0 class r.1))
        (or_right (test r.0) _ (ap (λ o. list_any test (line classes (length classes) o)) up ∙ ancestor_found u rest))
    ancestor_found t (further {u = u} class there is (inr c) rest) =
        let r = read_of classes class there in
        here t r.0 (rw (← is) (class_known app sound r.0 class r.1))
        (or_left (test r.0) _ (told r.0 class r.1 ∙ or_right (is_superclass class.parent b) _ ((beside_told app sound class b there).1 (record { 0 = u }, c, inr rest))))

    row_found : (class : ClassParts) (t : ℕ) → Contains classes class → class.name.0 ≡ t → (is_superclass class.parent b || has_kind (beside app class) b) ≡ true → IsAncestor classes t b
    row_found class t there is h = ⊎_elim
        (λ p. its_parent class there is (inl (superclass_told class.parent b p)))
        (λ k. from ((beside_told app sound class b there).0 k))
        (or_cases (is_superclass class.parent b) _ h)
      where
        from : IsBeside classes class b → IsAncestor classes t b
        from (i, c, inl e) = its_parent class there is (inr (subst (λ (u : ℕ). Contains class.interfaces (record { 0 = u })) e c))
        from (i, c, inr a) = further class there is (inr c) a

    found_from : (n t : ℕ) (o : Option ℕ) → ((d : ℕ) → o ≡ Some d → (class : ClassParts) × (slice_get classes d ≡ Some class) × (class.name.0 ≡ t)) → list_any test (line classes n o) ≡ true → IsAncestor classes t b
    found_from zero t o h e = absurd (false≢true e)
    found_from (suc n) t None h e = absurd (false≢true e)
    found_from (suc n) t (Some c) h e =
        let own = h c refl in
        let there = there_at classes c own.0 own.1 in
        ⊎_elim
        (λ f. row_found own.0 t there own.2 (sym (told c own.0 own.1) ∙ f))
        (λ f. up own.0 there own.2 own.0.parent refl (ap (λ o. list_any test (line classes n o)) (sym (superclass_is c own.0 own.1)) ∙ f) (λ u. found_from n u (class_of_type classes u) (λ d g. class_found classes u d g)))
        (or_cases (test c) _ e)
      where
        up : (class : ClassParts) → Contains classes class → class.name.0 ≡ t → (parent : Option TypeNo) → class.parent ≡ parent → list_any test (line classes n (class_of_parent classes parent)) ≡ true
            → ((u : ℕ) → list_any test (line classes n (class_of_type classes u)) ≡ true → IsAncestor classes u b) → IsAncestor classes t b
        up class there is None p f next = absurd (false≢true (ap (list_any test) (sym (no_line n)) ∙ f))
        up class there is (Some u) p f next = further class there is (inl p) (next u.0 f)

    pub found_ancestor : (t : ℕ) → any_above t → IsAncestor classes t b
    found_ancestor t e = found_from (length classes) t (class_of_type classes t) (λ d f. class_found classes t d f) e
