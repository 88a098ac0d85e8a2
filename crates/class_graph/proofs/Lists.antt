-- Elements, tests on lists, and classes by their types.
use Rattle.std.proofs.Common.{◌≡◌, ℕ, ◌<◌, ◌≤◌, Bool, true, false, List, [], get_or, map, refl, sym, ap, ◌∙◌, subst, ⊎_elim, arith, eqb, eq-eqb, Contains, Option, Some, None, slice_get}
use Rattle.std.specs.List.{list_any}
use Rattle.std.proofs.lemmas.Bool.{eqb-true, cases_lt, false≢true}
use Rattle.std.proofs.lemmas.List.{get_or-map, length-map}
use Rattle.std.proofs.lemmas.List.Folds.{list_any_at, Any-from_list_any}
use Rattle.std.proofs.lemmas.List.Quantifiers.{position-Some}
use Rattle.std.proofs.lemmas.Option.{get_or_from_slice_get, slice_get-get_or, slice_get_within}
use Rattle.ns_base.specs.declared.rows.TypeNo.{TypeNo}
use Rattle.app_model.specs.Hierarchy.{class_of_type, is_superclass, is_type}
use Rattle.app_model.specs.Parts.{AppParts, ClassParts}
use Rattle.app_model.specs.Sound.{IsSoundApp}
use Rattle.app_model.proofs.TypeIndex.{class_here}
use Rattle.class_graph.specs.Walks.{has_kind}

pub same_test : (x y : Bool) → (x ≡ true → y ≡ true) → (y ≡ true → x ≡ true) → x ≡ y
same_test true y f g = sym (f refl)
same_test false true f g = g refl
same_test false false f g = refl

-- ---- elements by place
pub read_of : {X : Type 0} (xs : List X) (x : X) → Contains xs x → (k : ℕ) × (slice_get xs k ≡ Some x)
read_of xs x c = (c.0, slice_get-get_or xs c.0 x c.1 ∙ ap Some c.2)

pub there_at : {X : Type 0} (xs : List X) (k : ℕ) (x : X) → slice_get xs k ≡ Some x → Contains xs x
there_at xs k x e = (k, slice_get_within xs k x e, get_or_from_slice_get xs k x x e)

pub any_found : {X : Type 0} (p : X → Bool) (xs : List X) → list_any p xs ≡ true → (x : X) × Contains xs x × (p x ≡ true)
any_found p xs e = let a = Any-from_list_any p xs e in (a.1, (a.0, a.2, a.3), a.4)

pub any_there : {X : Type 0} (p : X → Bool) (xs : List X) (x : X) → Contains xs x → p x ≡ true → list_any p xs ≡ true
any_there p xs x c e = list_any_at p xs c.0 x c.1 (rw c.2 e)

-- ---- types in lists
same_type : (t : TypeNo) (u : ℕ) → t.0 ≡ u → ◌≡◌ {A = TypeNo} t (record { 0 = u })
same_type t u same = rw (← same) refl

pub kind_told : (kinds : List TypeNo) (u : ℕ) → has_kind kinds u ≡ true → Contains kinds (record { 0 = u })
kind_told kinds u e = let f = any_found (is_type u) kinds e in subst (Contains kinds) (same_type f.0 u (eqb-true f.0.0 u f.2)) f.1

pub told_kind : (kinds : List TypeNo) (t : TypeNo) → Contains kinds t → has_kind kinds t.0 ≡ true
told_kind kinds t c = any_there (is_type t.0) kinds t c (eq-eqb t.0 t.0 refl)

pub superclass_told : (parent : Option TypeNo) (u : ℕ) → is_superclass parent u ≡ true → parent ≡ Some (record { 0 = u })
superclass_told None u e = absurd (false≢true e)
superclass_told (Some t) u e = ap Some (same_type t u (eqb-true t.0 u e))

pub told_superclass : (parent : Option TypeNo) (u : ℕ) → parent ≡ Some (record { 0 = u }) → is_superclass parent u ≡ true
told_superclass parent u e = rw e (eq-eqb u u refl)

-- ---- classes by type
abbrev named : ℕ → ClassParts → Bool
named t class = eqb class.name.0 t

-- the class that is found
pub class_found : (classes : List ClassParts) (t c : ℕ) → class_of_type classes t ≡ Some c → (class : ClassParts) × (slice_get classes c ≡ Some class) × (class.name.0 ≡ t)
unfolding class_of_type
class_found classes t c e =
    let blank : ClassParts = record { name = record { 0 = 0 }; parent = None; interfaces = []; flags = 0 } in
    let p = position-Some (named t) classes c blank e in
    (get_or classes c blank, slice_get-get_or classes c blank p.0, eqb-true _ t p.1)

module _ (app : AppParts) (sound : IsSoundApp app) where
  abbrev classes : List ClassParts
  classes = app.classes

  -- one class has a name
  pub one_class : (i j : ℕ) (a b : ClassParts) → slice_get classes i ≡ Some a → slice_get classes j ≡ Some b → a.name.0 ≡ b.name.0 → i ≡ j
  one_class i j a b ea eb same =
      let la = slice_get_within classes i a ea in
      let lb = slice_get_within classes j b eb in
      let names = λ (class : ClassParts). class.name.0 in
      let len = length-map classes names in
      let ra : get_or (map names classes) i 0 ≡ a.name.0 = get_or-map names classes i a 0 la ∙ ap names (get_or_from_slice_get classes i a a ea) in
      let rb : get_or (map names classes) j 0 ≡ b.name.0 = get_or-map names classes j b 0 lb ∙ ap names (get_or_from_slice_get classes j b b eb) in
      ⊎_elim
      (λ (lt : i < j). absurd (sound.once.classes i j 0 lt (omega (arith, len, lb)) (ra ∙ same ∙ sym rb)))
      (λ (le : j ≤ i). ⊎_elim (λ (lt : j < i). absurd (sound.once.classes j i 0 lt (omega (arith, len, la)) (rb ∙ sym same ∙ sym ra))) (λ (ge : i ≤ j). omega arith) (cases_lt j i))
      (cases_lt i j)

  pub same_class : (a b : ClassParts) → Contains classes a → Contains classes b → a.name.0 ≡ b.name.0 → a ≡ b
  same_class a b ca cb same =
      let ra = read_of classes a ca in
      let rb = read_of classes b cb in
      let place = one_class ra.0 rb.0 a b ra.1 rb.1 same in
      let ea = ra.1 in
      let eb = rb.1 in
      cc (ap (slice_get classes) place)

  pub class_known : (c : ℕ) (class : ClassParts) → slice_get classes c ≡ Some class → class_of_type classes class.name.0 ≡ Some c
  class_known c class e =
      let below = slice_get_within classes c class e in
      sym (class_here classes class.name.0 c class below
      (λ k lt same. absurd (let once = one_class k c (get_or classes k class) class (slice_get-get_or classes k class (omega (arith, lt, below))) e same in omega (arith, lt, once)))
      (ap (λ (d : ClassParts). d.name.0) (get_or_from_slice_get classes c class class e)))
