-- The test of subtypes answers whether there is a path of parents.
use Rattle.std.proofs.Common.{◌≡◌, ℕ, zero, suc, ◌<◌, ◌≤◌, ◌||◌, ◌&&◌, Bool, true, false, cond, List, [], ◌∷◌, length, refl, sym, ap, ◌∙◌, subst, inl, inr, ⊎_elim, arith, eqb, eq-eqb, Contains, Option, Some, None}
use Rattle.std.specs.Prelude.{◌⊎◌}
use Rattle.std.specs.List.{list_any, sum_by, All}
use Rattle.std.proofs.lemmas.Bool.{eqb-true, cases_lt, and_parts, or_cases, false≢true}
use Rattle.std.proofs.lemmas.List.{get_or_past}
use Rattle.std.proofs.lemmas.List.Folds.{list_any_at, Any-from_list_any}
use Rattle.std.proofs.lemmas.List.Sums.{sum_by-cons}
use Rattle.std.proofs.lemmas.List.FromFn.{get_or-map-range_with_len, length-map-range_with_len}
use Rattle.ns_base.specs.declared.rows.TypeNo.{TypeNo}
use Rattle.app_model.specs.Ancestors.{IsParent, IsAncestor, its_parent, further}
use Rattle.app_model.specs.Hierarchy.{is_type, is_superclass, has_parent, is_marked, round, marks_of, rounds, above_type, is_sub, TellsSubtypes}
use Rattle.app_model.specs.Parts.{AppParts, ClassParts}
use Rattle.app_model.specs.Sound.{AreInRange, IsClassRow, IsType}

-- how many are not marked
abbrev unmarked : List Bool → ℕ
unmarked marks = sum_by (λ (mark : Bool). cond mark 0 1) marks

-- a class that is marked has the type as a parent
abbrev leads : List Bool → ℕ → ClassParts → Bool
leads marks u class = is_marked marks class.name.0 && has_parent class u

-- ---- marks
marked_in : (n : ℕ) (test : ℕ → Bool) (u : ℕ) → u < n → is_marked (marks_of n test) u ≡ test u
marked_in n test u lt = get_or-map-range_with_len test 0 n u u false lt (omega arith)

marked_past : (n : ℕ) (test : ℕ → Bool) (u : ℕ) → is_marked (marks_of n test) u ≡ true → u < n
marked_past n test u e = ⊎_elim (λ l. l) (λ past. absurd (let len = length-map-range_with_len test 0 n in let off = get_or_past (marks_of n test) u false (omega arith) in false≢true (sym off ∙ e))) (cases_lt u n)

marked_test : (n : ℕ) (test : ℕ → Bool) (u : ℕ) → is_marked (marks_of n test) u ≡ true → test u ≡ true
marked_test n test u e = sym (marked_in n test u (marked_past n test u e)) ∙ e

-- ---- tests on lists
any_found : {X : Type 0} (p : X → Bool) (xs : List X) → list_any p xs ≡ true → (x : X) × Contains xs x × (p x ≡ true)
any_found p xs e = let a = Any-from_list_any p xs e in (a.1, (a.0, a.2, a.3), a.4)

any_there : {X : Type 0} (p : X → Bool) (xs : List X) (x : X) → Contains xs x → p x ≡ true → list_any p xs ≡ true
any_there p xs x c e = list_any_at p xs c.0 x c.1 (rw c.2 e)

unmarked_le : (xs : List Bool) → unmarked xs ≤ length xs
unmarked_le [] = omega arith
unmarked_le (true ∷ xs) = let x = sum_by-cons (λ (mark : Bool). cond mark 0 1) true xs in omega (arith, unmarked_le xs)
unmarked_le (false ∷ xs) = let x = sum_by-cons (λ (mark : Bool). cond mark 0 1) false xs in omega (arith, unmarked_le xs)

-- ---- parents of a class
same_type : (t : TypeNo) (u : ℕ) → t.0 ≡ u → ◌≡◌ {A = TypeNo} t (record { 0 = u })
same_type t u same = rw (← same) refl

superclass_told : (parent : Option TypeNo) (u : ℕ) → is_superclass parent u ≡ true → parent ≡ Some (record { 0 = u })
superclass_told None u e = absurd (false≢true e)
superclass_told (Some t) u e = ap Some (same_type t u (eqb-true t.0 u e))

told_parent : (class : ClassParts) (u : ℕ) → has_parent class u ≡ true → IsParent class u
told_parent class u e = ⊎_elim (λ f. inl (superclass_told class.parent u f))
    (λ f. let c = any_found (is_type u) class.interfaces f in inr (subst (Contains class.interfaces) (same_type c.0 u (eqb-true _ u c.2)) c.1)) (or_cases _ _ e)

or_true : (b : Bool) → (b || true) ≡ true
or_true true = refl
or_true false = refl

parent_told : (class : ClassParts) (u : ℕ) → IsParent class u → has_parent class u ≡ true
parent_told class u (inl e) = rw (e, eq-eqb u u refl) refl
parent_told class u (inr c) = rw (any_there (is_type u) class.interfaces (record { 0 = u }) c (eq-eqb u u refl)) (or_true _)

each_holds : {A : Type 0} (P : A → Type 0) (xs : List A) (x : A) → All P xs → Contains xs x → P x
each_holds P xs x all c = subst P c.2 (all c.0 x c.1)

-- ---- more marks, or the same
data More : List Bool → List Bool → Type 0 where
  nil : More [] []
  same : {a : Bool} {xs ys : List Bool} → More xs ys → More (a ∷ xs) (a ∷ ys)
  new : {xs ys : List Bool} → More xs ys → More (false ∷ xs) (true ∷ ys)

stays_or_falls : {xs ys : List Bool} → More xs ys → (ys ≡ xs) ⊎ (unmarked ys < unmarked xs)
stays_or_falls nil = inl refl
stays_or_falls (same {a = a} {xs = xs} {ys = ys} m) =
    let x = sum_by-cons (λ (mark : Bool). cond mark 0 1) a xs in
    let y = sum_by-cons (λ (mark : Bool). cond mark 0 1) a ys in
    ⊎_elim (λ e. inl (ap (λ zs. a ∷ zs) e)) (λ lt. inr (omega arith)) (stays_or_falls m)
stays_or_falls (new {xs = xs} {ys = ys} m) =
    let x = sum_by-cons (λ (mark : Bool). cond mark 0 1) false xs in
    let y = sum_by-cons (λ (mark : Bool). cond mark 0 1) true ys in
    inr (⊎_elim (λ e. (let z = ap unmarked e in omega arith)) (λ lt. omega arith) (stays_or_falls m))

more_by : (xs ys : List Bool) → length xs ≡ length ys → ((u : ℕ) → is_marked xs u ≡ true → is_marked ys u ≡ true) → More xs ys
more_by [] [] e h = nil
more_by [] (y ∷ ys) e h = absurd (omega arith)
more_by (x ∷ xs) [] e h = absurd (omega arith)
more_by (x ∷ xs) (y ∷ ys) e h = go x y (more_by xs ys (omega arith) (λ u. h (suc u))) (h 0)
  where
    go : (x y : Bool) → More xs ys → (x ≡ true → y ≡ true) → More (x ∷ xs) (y ∷ ys)
    go true true m k = same m
    go false false m k = same m
    go false true m k = new m
    go true false m k = absurd (false≢true (k refl))

module _ (classes : List ClassParts) (n : ℕ) where
  abbrev next : List Bool → List Bool
  next marks = marks_of n (round classes marks)

  next_more : (marks : List Bool) → length marks ≡ n → More marks (next marks)
  next_more marks len = more_by marks (next marks) (len ∙ sym (length-map-range_with_len (round classes marks) 0 n)) (λ u e.
      let lt : u < n = ⊎_elim (λ l. l) (λ past. absurd (let off = get_or_past marks u false (omega arith) in false≢true (sym off ∙ e))) (cases_lt u n) in
      marked_in n (round classes marks) u lt ∙ ap (λ b. b || list_any (leads marks u) classes) e)

  stays : (k : ℕ) (marks : List Bool) → next marks ≡ marks → rounds classes n k marks ≡ marks
  stays zero marks e = refl
  stays (suc k) marks e = ap (rounds classes n k) e ∙ stays k marks e

  -- so many rounds are enough
  stable : (k : ℕ) (marks : List Bool) → length marks ≡ n → unmarked marks ≤ k → next (rounds classes n k marks) ≡ rounds classes n k marks
  stable zero marks len le = ⊎_elim (λ e. e) (λ lt. absurd (omega arith)) (stays_or_falls (next_more marks len))
  stable (suc k) marks len le =
      ⊎_elim
      (λ e. let s = stays (suc k) marks e in rw s e)
      (λ lt. stable k (next marks) (length-map-range_with_len (round classes marks) 0 n) (omega arith))
      (stays_or_falls (next_more marks len))

  kept : (k : ℕ) (marks : List Bool) (u : ℕ) → u < n → is_marked marks u ≡ true → is_marked (rounds classes n k marks) u ≡ true
  kept zero marks u lt e = e
  kept (suc k) marks u lt e = kept k (next marks) u lt (marked_in n (round classes marks) u lt ∙ ap (λ b. b || list_any (leads marks u) classes) e)

  -- what is marked is the first type or above it
  sound : (a k : ℕ) (marks : List Bool) → ((u : ℕ) → is_marked marks u ≡ true → (a ≡ u) ⊎ IsAncestor classes a u) → (u : ℕ) → is_marked (rounds classes n k marks) u ≡ true → (a ≡ u) ⊎ IsAncestor classes a u
  sound a zero marks h u e = h u e
  sound a (suc k) marks h u e = sound a k (next marks) (λ v f. step v (marked_test n (round classes marks) v f)) u e
    where
      step : (v : ℕ) → round classes marks v ≡ true → (a ≡ v) ⊎ IsAncestor classes a v
      step v f = ⊎_elim (h v) (λ g. let c = any_found (leads marks v) classes g in
          let parts = and_parts _ _ c.2 in
          inr (last c.0 v (h c.0.name.0 parts.0) c.1 (told_parent c.0 v parts.1))) (or_cases _ _ f)
        where
          above : (class : ClassParts) (t w v : ℕ) → IsAncestor classes t w → class.name.0 ≡ w → Contains classes class → IsParent class v → IsAncestor classes t v
          above class t w v (its_parent k there is p) e c q = further k there is p (its_parent class c e q)
          above class t w v (further k there is p rest) e c q = further k there is p (above class _ w v rest e c q)

          last : (class : ClassParts) (v : ℕ) → (a ≡ class.name.0) ⊎ IsAncestor classes a class.name.0 → Contains classes class → IsParent class v → IsAncestor classes a v
          last class v (inl e) c q = its_parent class c (sym e) q
          last class v (inr k) c q = above class a class.name.0 v k refl c q

-- a subtype by the marks is the type, or stands above it
pub stands_above : (app : AppParts) (a b : ℕ) → is_sub app a b ≡ true → (a ≡ b) ⊎ IsAncestor app.classes a b
unfolding is_sub above_type
stands_above app a b e =
    let count = length app.types in
    ⊎_elim (λ f. inl (eqb-true a b f))
    (sound app.classes count a count (marks_of count (λ u. eqb u a)) (λ u g. inl (sym (eqb-true u a (marked_test count (λ u. eqb u a) u g)))) b) (or_cases _ _ e)

module _ (app : AppParts) (ranges : AreInRange app) where
  abbrev count : ℕ
  count = length app.types

  abbrev first : ℕ → List Bool
  first a = marks_of count (λ u. eqb u a)

  class_row : (class : ClassParts) → Contains app.classes class → IsClassRow app class
  class_row class c = each_holds (IsClassRow app) app.classes class ranges.classes c

  parent_below : (class : ClassParts) (u : ℕ) → Contains app.classes class → IsParent class u → u < count
  parent_below class u c (inl e) = (class_row class c).parent (record { 0 = u }) e
  parent_below class u c (inr i) = each_holds (IsType app) class.interfaces (record { 0 = u }) (class_row class c).interfaces i

  first_below : (a b : ℕ) → IsAncestor app.classes a b → a < count
  first_below a b (its_parent class c is p) = rw (← is) (class_row class c).name
  first_below a b (further class c is p rest) = rw (← is) (class_row class c).name

  -- what is above a marked type is marked, where a round adds nothing
  complete : (marks : List Bool) → next app.classes count marks ≡ marks → (t v : ℕ) → IsAncestor app.classes t v → is_marked marks t ≡ true → is_marked marks v ≡ true
  complete marks e t v k m = go t v k m
    where
      one : (class : ClassParts) (t u : ℕ) → Contains app.classes class → class.name.0 ≡ t → IsParent class u → is_marked marks t ≡ true → is_marked marks u ≡ true
      one class t u c is p m =
          let here : is_marked marks class.name.0 ≡ true = rw is m in
          let found : list_any (leads marks u) app.classes ≡ true = any_there (leads marks u) app.classes class c (rw (here, parent_told class u p) refl) in
          ap (λ ms. is_marked ms u) (sym e) ∙ marked_in count (round app.classes marks) u (parent_below class u c p) ∙ ap (λ b. is_marked marks u || b) found ∙ or_true (is_marked marks u)

      go : (t v : ℕ) → IsAncestor app.classes t v → is_marked marks t ≡ true → is_marked marks v ≡ true
      go t v (its_parent class c is p) m = one class t v c is p m
      go t v (further {u = u} class c is p rest) m = go u v rest (one class t u c is p m)

  pub subtypes_told : TellsSubtypes app
  unfolding is_sub above_type
  subtypes_told a b = (stands_above app a b, back)
    where
      back : (a ≡ b) ⊎ IsAncestor app.classes a b → (eqb a b || is_marked (rounds app.classes count count (first a)) b) ≡ true
      back (inl e) = rw (eq-eqb a b e) refl
      back (inr k) =
          let lt = first_below a b k in
          let len = length-map-range_with_len (λ u. eqb u a) 0 count in
          let le : unmarked (first a) ≤ count = omega (arith, unmarked_le (first a)) in
          let there : is_marked (first a) a ≡ true = marked_in count (λ u. eqb u a) a lt ∙ eq-eqb a a refl in
          let all = complete (rounds app.classes count count (first a)) (stable app.classes count count (first a) len le) a b k (kept app.classes count count (first a) a lt there) in
          ap (λ x. eqb a b || x) all ∙ or_true (eqb a b)
