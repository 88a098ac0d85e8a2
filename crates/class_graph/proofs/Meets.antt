-- What a walk meets.
use Rattle.std.proofs.Common.{◌≡◌, ℕ, zero, suc, ◌<◌, ◌≤◌, ◌++◌, ◌||◌, Bool, true, false, cond, List, [], ◌∷◌, length, map, refl, sym, ap₂, ◌∙◌, subst, inl, inr, ⊎_elim, arith, eqb, eq-eqb, Contains, Option, Some, None, slice_get}
use Rattle.std.specs.Prelude.{◌⊎◌}
use Rattle.std.specs.List.{IsDistinct, list_any}
use Rattle.std.proofs.lemmas.Bool.{cases_Bool, eqb-true, false≢true, or_cases, or_left, or_right}
use Rattle.std.proofs.lemmas.Cmp.{nat_eq_equiv}
use Rattle.std.proofs.lemmas.List.{length-map, map-append}
use Rattle.std.proofs.lemmas.List.Folds.{list_any-append}
use Rattle.std.proofs.lemmas.Map.Keys.{IsDistinct-push}
use Rattle.std.proofs.lemmas.Map.Steps.{length-le_from_distinct_below}
use Rattle.ns_base.specs.declared.rows.TypeNo.{TypeNo}
use Rattle.app_model.specs.Ancestors.{IsParent}
use Rattle.app_model.specs.Hierarchy.{is_type}
use Rattle.app_model.specs.Parts.{ClassParts}
use Rattle.class_graph.specs.Walks.{has_kind, met, met_above, met_all, met_parent}
use Rattle.class_graph.proofs.Lists.{kind_told, read_of, there_at, told_kind}

abbrev pub numbers : List TypeNo → List ℕ
numbers kinds = map (λ (t : TypeNo). t.0) kinds

-- types were met, all of them such ones, and none twice
pub record Grown (P : ℕ → Type 0) (old new : List TypeNo) : Type 0 where
  pub front : (k : ℕ) (t : TypeNo) → slice_get old k ≡ Some t → slice_get new k ≡ Some t
  pub only : (u : ℕ) → has_kind new u ≡ true → (has_kind old u ≡ true) ⊎ P u
  pub distinct : IsDistinct eqb (numbers old) → IsDistinct eqb (numbers new)

pub grown_none : (P : ℕ → Type 0) (kinds : List TypeNo) → Grown P kinds kinds
grown_none P kinds = record { front = λ k t e. e; only = λ u e. inl e; distinct = λ d. d }

pub grown_next : (P : ℕ → Type 0) (a b c : List TypeNo) → Grown P a b → Grown P b c → Grown P a c
grown_next P a b c f g = record {
  front = λ k t e. g.front k t (f.front k t e);
  only = λ u e. ⊎_elim (f.only u) inr (g.only u e);
  distinct = λ d. g.distinct (f.distinct d);
}

pub kept : (P : ℕ → Type 0) (a b : List TypeNo) → Grown P a b → (u : ℕ) → has_kind a u ≡ true → has_kind b u ≡ true
kept P a b g u e =
    let t : TypeNo = record { 0 = u } in
    let r = read_of a t (kind_told a u e) in
    told_kind b t (there_at b r.0 t (g.front r.0 t r.1))

slice_front : {X : Type 0} (xs : List X) (y : X) (k : ℕ) (x : X) → slice_get xs k ≡ Some x → slice_get (xs ++ y ∷ []) k ≡ Some x
slice_front [] y k x e = absurd (cc)
slice_front (z ∷ xs) y zero x e = e
slice_front (z ∷ xs) y (suc k) x e = slice_front xs y k x e

numbers_any : (q : ℕ) (kinds : List TypeNo) → list_any (eqb q) (numbers kinds) ≡ has_kind kinds q
numbers_any q [] = refl
numbers_any q (t ∷ kinds) = ap₂ (λ (x y : Bool). x || y) (nat_eq_equiv.symm q t.0) (numbers_any q kinds)

-- types with no two equal, all of them below n
pub few : (n : ℕ) (kinds : List TypeNo) → IsDistinct eqb (numbers kinds) → ((u : ℕ) → has_kind kinds u ≡ true → u < n) → length kinds ≤ n
few n kinds d below =
    let le = length-le_from_distinct_below (numbers kinds) n d (λ q e. below q (sym (numbers_any q kinds) ∙ e)) in
    omega (arith, le, length-map kinds (λ (t : TypeNo). t.0))

module _ (kinds : List TypeNo) (t : TypeNo) where
  abbrev longer : List TypeNo
  longer = kinds ++ t ∷ []

  longer_has : (u : ℕ) → has_kind longer u ≡ (has_kind kinds u || (eqb t.0 u || false))
  longer_has u = list_any-append (is_type u) kinds (t ∷ [])

  pub has_met : has_kind (met kinds t) t.0 ≡ true
  has_met = ⊎_elim
      (λ e. rw e e)
      (λ e. rw e (longer_has t.0 ∙ or_right (has_kind kinds t.0) (eqb t.0 t.0 || false) (or_left (eqb t.0 t.0) false (eq-eqb t.0 t.0 refl))))
      (cases_Bool (has_kind kinds t.0))

  pub grown_met : (P : ℕ → Type 0) → P t.0 → Grown P kinds (met kinds t)
  grown_met P p = go (has_kind kinds t.0) refl
    where
      go : (b : Bool) → has_kind kinds t.0 ≡ b → Grown P kinds (cond b kinds longer)
      go true e = grown_none P kinds
      go false e = record {
        front = λ k x f. slice_front kinds t k x f;
        only = λ u f. ⊎_elim inl (λ g. ⊎_elim (λ h. inr (subst P (eqb-true t.0 u h) p)) (λ h. absurd (false≢true h)) (or_cases (eqb t.0 u) false g))
            (or_cases (has_kind kinds u) _ (sym (longer_has u) ∙ f));
        distinct = λ d. rw map-append (IsDistinct-push nat_eq_equiv (numbers kinds) t.0 d (numbers_any t.0 kinds ∙ e));
      }

pub grown_all : (P : ℕ → Type 0) (kinds ts : List TypeNo) → ((t : TypeNo) → Contains ts t → P t.0) → Grown P kinds (met_all kinds ts)
grown_all P kinds [] all = grown_none P kinds
grown_all P kinds (t ∷ ts) all =
    grown_next P kinds (met kinds t) (met_all (met kinds t) ts) (grown_met kinds t P (all t (0, omega arith, refl))) (grown_all P (met kinds t) ts (λ u c. all u (suc c.0, omega (arith, c.1), c.2)))

abbrev any_of : ℕ → Type 0
any_of u = Unit {0}

pub has_all : (kinds ts : List TypeNo) (t : TypeNo) → Contains ts t → has_kind (met_all kinds ts) t.0 ≡ true
has_all kinds [] t c = absurd (omega (arith, c.1))
has_all kinds (x ∷ ts) t (zero, lt, is) = rw (← is) (kept any_of (met kinds x) (met_all (met kinds x) ts) (grown_all any_of (met kinds x) ts (λ u c. tt)) x.0 (has_met kinds x))
has_all kinds (x ∷ ts) t (suc k, lt, is) = has_all (met kinds x) ts t (k, omega (arith, lt), is)

-- the parents of a class
module _ (kinds : List TypeNo) (class : ClassParts) where
  abbrev first : List TypeNo
  first = met_parent kinds class.parent

  grown_parent : (P : ℕ → Type 0) (parent : Option TypeNo) → ((u : ℕ) → parent ≡ Some (record { 0 = u }) → P u) → Grown P kinds (met_parent kinds parent)
  grown_parent P None all = grown_none P kinds
  grown_parent P (Some t) all = grown_met kinds t P (all t.0 refl)

  pub grown_above : (P : ℕ → Type 0) → ((u : ℕ) → IsParent class u → P u) → Grown P kinds (met_above kinds (Some class))
  grown_above P all =
      grown_next P kinds first (met_all first class.interfaces) (grown_parent P class.parent (λ u e. all u (inl e))) (grown_all P first class.interfaces (λ t c. all t.0 (inr c)))

  pub has_above : (u : ℕ) → IsParent class u → has_kind (met_above kinds (Some class)) u ≡ true
  has_above u (inl e) = kept any_of first (met_all first class.interfaces) (grown_all any_of first class.interfaces (λ t c. tt)) u (rw e (has_met kinds (record { 0 = u })))
  has_above u (inr c) = has_all first class.interfaces (record { 0 = u }) c
