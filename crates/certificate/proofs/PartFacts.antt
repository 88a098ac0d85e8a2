-- The rows of a part have the facts of the set, and no other.
use Rattle.std.proofs.Common.{◌≡◌, ℕ, zero, suc, ◌+◌, ◌<◌, ◌≤◌, Bool, true, false, cond, eqb, ltb, ◌&&◌, ◌⊎◌, List, [], ◌∷◌, ◌++◌, map, length, refl, sym, ap, subst, ◌∙◌, inl, inr, arith}
use Rattle.std.specs.Prelude.{◌||◌, slice_index}
use Rattle.std.specs.Int.{bit_at}
use Rattle.std.specs.List.{filter, flat_map, list_any, range_with_len}
use Rattle.std.proofs.lemmas.Bool.{eqb-true, eq-eqb, lt-ltb, cases_lt, and_parts, and_from, or_cases, or_left, or_right}
use Rattle.std.proofs.lemmas.List.FromFn.{get_or-map-range_with_len}
use Rattle.app_model.specs.Facts.{Fact, View, At, Ret, Exc}
use Rattle.app_model.specs.Masks.{in_mask}
use Rattle.app_model.specs.Subject.{SubjectParts, is_reached}
use Rattle.app_model.specs.Words.{code_len}
use Rattle.solution.proofs.Bits.{in_mask_is}
use Rattle.cert_line.specs.Lines.{has_fact}
use Rattle.cert_line.specs.Parts.{BodyParts}
use Rattle.cert_line.specs.declared.rows.ViewRow.{ViewRow}
use Rattle.certificate.specs.Solved.{bit_of, mask_of, numbers_below, view_row, has_status, component_views, masks_of, body_row, code_bodies, method_bodies, BodyFact}
use Rattle.certificate.proofs.Bits.{bit_below, status_counts}
use Rattle.certificate.proofs.BodyRows.{fact_some}

-- ---- some row of a list
module _ {X : Type 0} (test : X → Bool) where
  any_append : (xs ys : List X) → list_any test (xs ++ ys) ≡ true → (list_any test xs ≡ true) ⊎ (list_any test ys ≡ true)
  any_append [] ys h = inr h
  any_append (x ∷ xs) ys h = elim (or_cases (test x) (list_any test (xs ++ ys)) h) [
    | inl here ↦ inl (or_left (test x) _ here)
    | inr later ↦ elim (any_append xs ys later) [ inl left ↦ inl (or_right (test x) _ left) | inr right ↦ inr right ]
  ]

  any_first : (xs ys : List X) → list_any test xs ≡ true → list_any test (xs ++ ys) ≡ true
  any_first [] ys h = absurd cc
  any_first (x ∷ xs) ys h = elim (or_cases (test x) (list_any test xs) h) [
    | inl here ↦ or_left (test x) _ here
    | inr later ↦ or_right (test x) _ (any_first xs ys later)
  ]

  any_last : (xs ys : List X) → list_any test ys ≡ true → list_any test (xs ++ ys) ≡ true
  any_last [] ys h = h
  any_last (x ∷ xs) ys h = or_right (test x) _ (any_last xs ys h)

  any_group : (g : ℕ → List X) (n from a : ℕ) → from ≤ a → a < from + n → list_any test (g a) ≡ true → list_any test (flat_map g (range_with_len from n)) ≡ true
  any_group g zero from a le lt h = absurd (omega arith)
  any_group g (suc n) from a le lt h =
      elim (cases_lt from a) [
        | inl less ↦ any_last (g from) (flat_map g (range_with_len (from + 1) n)) (any_group g n (from + 1) a (omega arith) (omega arith) h)
        | inr ge ↦ let is : a ≡ from = omega arith in any_first (g from) (flat_map g (range_with_len (from + 1) n)) (rw is at h)
      ]

  some_group : (g : ℕ → List X) (n from : ℕ) → list_any test (flat_map g (range_with_len from n)) ≡ true → (a : ℕ) × (a < from + n) × (list_any test (g a) ≡ true)
  some_group g zero from h = absurd cc
  some_group g (suc n) from h =
      elim (any_append (g from) (flat_map g (range_with_len (from + 1) n)) h) [
        | inl here ↦ (from, omega arith, here)
        | inr later ↦ let t = some_group g n (from + 1) later in (t.0, omega (arith, t.1), t.2)
      ]

  kept_any : (b : Bool) (x : X) (xs : List X) → list_any test xs ≡ true → list_any test (cond b (x ∷ xs) xs) ≡ true
  kept_any true x xs h = or_right (test x) _ h
  kept_any false x xs h = h

  kept_here : (b : Bool) (x : X) (xs : List X) → b ≡ true → test x ≡ true → list_any test (cond b (x ∷ xs) xs) ≡ true
  kept_here true x xs e h = or_left (test x) _ h
  kept_here false x xs e h = absurd cc

  any_row : (p : X → Bool) (f : ℕ → X) (n from b : ℕ) → from ≤ b → b < from + n → p (f b) ≡ true → test (f b) ≡ true → list_any test (filter p (map f (range_with_len from n))) ≡ true
  any_row p f zero from b le lt kept h = absurd (omega arith)
  any_row p f (suc n) from b le lt kept h =
      let more = filter p (map f (range_with_len (from + 1) n)) in
      elim (cases_lt from b) [
        | inl less ↦ kept_any (p (f from)) (f from) more (any_row p f n (from + 1) b (omega arith) (omega arith) kept h)
        | inr ge ↦ let is : b ≡ from = omega arith in kept_here (p (f from)) (f from) more (rw is at kept) (rw is at h)
      ]

  of_kept : (b : Bool) (x : X) (xs : List X) → list_any test (cond b (x ∷ xs) xs) ≡ true → (test x ≡ true) ⊎ (list_any test xs ≡ true)
  of_kept true x xs h = or_cases (test x) (list_any test xs) h
  of_kept false x xs h = inr h

  some_row : (p : X → Bool) (f : ℕ → X) (n from : ℕ) → list_any test (filter p (map f (range_with_len from n))) ≡ true → (b : ℕ) × (test (f b) ≡ true)
  some_row p f zero from h = absurd cc
  some_row p f (suc n) from h =
      elim (of_kept (p (f from)) (f from) (filter p (map f (range_with_len (from + 1) n))) h) [
        | inl here ↦ (from, here)
        | inr later ↦ some_row p f n (from + 1) later
      ]

-- ---- a status of a mask
bit_test : (b : Bool) → eqb (bit_of b) 1 ≡ b
bit_test true = refl
bit_test false = refl

pub in_mask_of : (f : ℕ → Bool) (s : ℕ) → s < 8 → in_mask (mask_of f) s ≡ f s
unfolding mask_of
in_mask_of f s lt = in_mask_is (mask_of f) s lt ∙ ap (λ (m : ℕ). eqb m 1) (bit_below 8 f s lt) ∙ bit_test (f s)

same_test : (x y : Bool) → (x ≡ true → y ≡ true) → (y ≡ true → x ≡ true) → x ≡ y
same_test true y f g = sym (f refl)
same_test false true f g = g refl
same_test false false f g = refl

-- ---- views
module _ (set : Fact → Bool) (c q s : ℕ) (s8 : s < 8) where
  abbrev view_test : ViewRow → Bool
  view_test row = eqb row.component c && eqb row.state q && in_mask row.mask s

  pub view_only : (n : ℕ) → list_any view_test (flat_map (component_views set) (numbers_below n)) ≡ true → set (View c q s) ≡ true
  unfolding component_views
  view_only n h =
      let a = some_group view_test (component_views set) n 0 h in
      let b = some_row view_test has_status (view_row set a.0) 8 0 a.2 in
      let t = and_parts (eqb a.0 c && eqb b.0 q) (in_mask (view_row set a.0 b.0).mask s) b.1 in
      let u = and_parts (eqb a.0 c) (eqb b.0 q) t.0 in
      let is_c : a.0 ≡ c = eqb-true _ _ u.0 in
      let is_q : b.0 ≡ q = eqb-true _ _ u.1 in
      let has : set (View a.0 b.0 s) ≡ true = sym (in_mask_of (λ s. set (View a.0 b.0 s)) s s8) ∙ t.1 in
      subst (λ (k : ℕ). set (View k q s) ≡ true) is_c (subst (λ (k : ℕ). set (View a.0 k s) ≡ true) is_q has)

  view_there : (n : ℕ) → c < n → q < 8 → set (View c q s) ≡ true → list_any view_test (flat_map (component_views set) (numbers_below n)) ≡ true
  unfolding component_views
  view_there n lt q8 h =
      let f = λ (s : ℕ). set (View c q s) in
      let test = and_from (eqb c c && eqb q q) _ (and_from (eqb c c) _ (eq-eqb c c refl) (eq-eqb q q refl)) (in_mask_of f s s8 ∙ h) in
      any_group view_test (component_views set) n 0 c (omega arith) (omega arith) (any_row view_test has_status (view_row set c) 8 0 q (omega arith) (omega arith) (lt-ltb 0 (mask_of f) (status_counts f s s8 h)) test)

  pub views_are : (n : ℕ) → c < n → q < 8 → list_any view_test (flat_map (component_views set) (numbers_below n)) ≡ set (View c q s)
  views_are n lt q8 = same_test _ _ (view_only n) (view_there n lt q8)

-- ---- bodies: a mask of the rows of a method that is reached, at an entry status
cond_any : {X : Type 0} (test : X → Bool) (b : Bool) (xs : List X) → list_any test (cond b xs []) ≡ true → list_any test xs ≡ true
cond_any test true xs h = h
cond_any test false xs h = absurd cc

module _ (x : SubjectParts) (set : Fact → Bool) (m e s : ℕ) (s8 : s < 8) (mask : BodyParts → ℕ) (fact : ℕ → Bool) (is : mask (body_row set m (code_len x.app m) e) ≡ mask_of fact) where
  abbrev row_of : (a b : ℕ) → BodyParts
  row_of a b = body_row set a (code_len x.app a) b

  abbrev body_test : BodyParts → Bool
  body_test row = eqb row.method m && eqb row.entry e && in_mask (mask row) s

  pub body_only : (n : ℕ) → list_any body_test (flat_map (method_bodies x set) (numbers_below n)) ≡ true → fact s ≡ true
  unfolding method_bodies code_bodies
  body_only n h =
      let a = some_group body_test (method_bodies x set) n 0 h in
      let rows = cond_any body_test (is_reached x a.0) (code_bodies set a.0 (code_len x.app a.0)) a.2 in
      let b = some_row body_test has_fact (row_of a.0) 8 0 rows in
      let t = and_parts (eqb a.0 m && eqb b.0 e) (in_mask (mask (row_of a.0 b.0)) s) b.1 in
      let u = and_parts (eqb a.0 m) (eqb b.0 e) t.0 in
      let at_b = subst (λ (k : ℕ). in_mask (mask (row_of a.0 k)) s ≡ true) (eqb-true _ _ u.1) t.1 in
      let at_a = subst (λ (k : ℕ). in_mask (mask (row_of k e)) s ≡ true) (eqb-true _ _ u.0) at_b in
      sym (in_mask_of fact s s8) ∙ ap (λ (k : ℕ). in_mask k s) (sym is) ∙ at_a

  body_there : (n : ℕ) → m < n → is_reached x m ≡ true → e < 8 → has_fact (row_of m e) ≡ true → fact s ≡ true → list_any body_test (flat_map (method_bodies x set) (numbers_below n)) ≡ true
  unfolding method_bodies code_bodies
  body_there n lt reached e8 some h =
      let test = and_from (eqb m m && eqb e e) _ (and_from (eqb m m) _ (eq-eqb m m refl) (eq-eqb e e refl)) (ap (λ (k : ℕ). in_mask k s) is ∙ in_mask_of fact s s8 ∙ h) in
      let row = any_row body_test has_fact (row_of m) 8 0 e (omega arith) (omega arith) some test in
      any_group body_test (method_bodies x set) n 0 m (omega arith) (omega arith) (rw reached row)

  pub bodies_are : (n : ℕ) → m < n → is_reached x m ≡ true → e < 8 → (fact s ≡ true → BodyFact set m (code_len x.app m) e s) → list_any body_test (flat_map (method_bodies x set) (numbers_below n)) ≡ fact s
  bodies_are n lt reached e8 some =
      same_test _ _ (body_only n) (λ h. body_there n lt reached e8 (fact_some set m (code_len x.app m) e s s8 (some h)) h)

-- the mask of an instruction
pub mask_at : (set : Fact → Bool) (m n e i : ℕ) → i < n → slice_index (masks_of set m n e) i ≡ mask_of (λ s. set (At m e i s))
mask_at set m n e i lt = let at : 0 + i ≡ i = omega arith in get_or-map-range_with_len (λ i. mask_of (λ s. set (At m e i s))) 0 n i i 0 lt at
