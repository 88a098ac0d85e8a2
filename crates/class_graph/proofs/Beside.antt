-- A walk from the interfaces of a class meets them and all types above them, and no others.
use Rattle.std.proofs.Common.{◌≡◌, ℕ, zero, suc, ◌+◌, ◌<◌, ◌≤◌, true, List, [], length, refl, sym, ◌∙◌, subst, inl, inr, ⊎_elim, arith, eqb, Contains, Option, Some, None, slice_get}
use Rattle.std.specs.Prelude.{◌⊎◌, ◌↔◌}
use Rattle.std.specs.List.{IsDistinct}
use Rattle.std.proofs.lemmas.Bool.{cases_lt, false≢true}
use Rattle.std.proofs.lemmas.List.Elements.{All-contains}
use Rattle.std.proofs.lemmas.Option.{slice_get-get_or, slice_get_within}
use Rattle.ns_base.specs.declared.rows.TypeNo.{TypeNo}
use Rattle.app_model.specs.Ancestors.{IsAncestor, IsParent, its_parent, further}
use Rattle.app_model.specs.Hierarchy.{class_of_type}
use Rattle.app_model.specs.Parts.{AppParts, ClassParts}
use Rattle.app_model.specs.Sound.{IsClassRow, IsSoundApp, IsType}
use Rattle.class_graph.specs.Walks.{beside, has_kind, met_above, met_all, met_class, met_from, met_next}
use Rattle.class_graph.proofs.Lists.{class_found, class_known, kind_told, read_of, same_class, there_at, told_kind}
use Rattle.class_graph.proofs.Meets.{Grown, few, grown_above, grown_all, grown_next, grown_none, has_above, has_all, kept, numbers}

-- type u is an interface of the class, or stands above one
abbrev pub IsBeside : List ClassParts → ClassParts → ℕ → Type 0
IsBeside classes class u = (i : TypeNo) × Contains class.interfaces i × ((i.0 ≡ u) ⊎ IsAncestor classes i.0 u)

-- one more step of a path
pub one_further : (classes : List ClassParts) (class : ClassParts) (t w v : ℕ) → IsAncestor classes t w → class.name.0 ≡ w → Contains classes class → IsParent class v → IsAncestor classes t v
one_further classes class t w v (its_parent k there is p) e c q = further k there is p (its_parent class c e q)
one_further classes class t w v (further k there is p rest) e c q = further k there is p (one_further classes class _ w v rest e c q)

-- the parents of the first types are there
abbrev ClosedBelow : List ClassParts → ℕ → List TypeNo → Type 0
ClosedBelow classes i kinds = (k : ℕ) (t : TypeNo) (class : ClassParts) (u : ℕ) → k < i → slice_get kinds k ≡ Some t → Contains classes class → class.name.0 ≡ t.0 → IsParent class u → has_kind kinds u ≡ true

module _ (app : AppParts) (sound : IsSoundApp app) where
  abbrev classes : List ClassParts
  classes = app.classes

  abbrev count : ℕ
  count = length app.types

  class_row : (class : ClassParts) → Contains classes class → IsClassRow app class
  class_row class c = All-contains (IsClassRow app) classes class sound.ranges.classes c

  pub parent_below : (class : ClassParts) (u : ℕ) → Contains classes class → IsParent class u → u < count
  parent_below class u c (inl e) = (class_row class c).parent (record { 0 = u }) e
  parent_below class u c (inr i) = All-contains (IsType app) class.interfaces (record { 0 = u }) (class_row class c).interfaces i

  pub ancestor_below : (t u : ℕ) → IsAncestor classes t u → u < count
  ancestor_below t u (its_parent class c is p) = parent_below class u c p
  ancestor_below t u (further class c is p rest) = ancestor_below _ u rest

  module _ (P : ℕ → Type 0) (below : (u : ℕ) → P u → u < count) (up : (class : ClassParts) (u : ℕ) → Contains classes class → P class.name.0 → IsParent class u → P u) where
    record Next (i : ℕ) (old new : List TypeNo) : Type 0 where
      grown : Grown P old new
      closed : ClosedBelow classes i old → ClosedBelow classes (i + 1) new

    -- the type at place i is done
    done_at : (i : ℕ) (old new : List TypeNo) → Grown P old new → ((k : ℕ) (t : TypeNo) → k < i → slice_get new k ≡ Some t → slice_get old k ≡ Some t)
        → ((t : TypeNo) (class : ClassParts) (u : ℕ) → slice_get new i ≡ Some t → Contains classes class → class.name.0 ≡ t.0 → IsParent class u → has_kind new u ≡ true)
        → Next i old new
    done_at i old new g front last = record {
      grown = g;
      closed = λ before k t class u lt e c n p. ⊎_elim
          (λ (less : k < i). kept P old new g u (before k t class u less (front k t less e) c n p))
          (λ (le : i ≤ k). last t class u (let same : k ≡ i = omega arith in rw (← same) e) c n p)
          (cases_lt k i);
    }

    step : (i : ℕ) (kinds : List TypeNo) → ((u : ℕ) → has_kind kinds u ≡ true → P u) → Next i kinds (met_next classes kinds (slice_get kinds i))
    step i kinds all = at (slice_get kinds i) refl
      where
        class_case : (t : TypeNo) → slice_get kinds i ≡ Some t → (o : Option ℕ) → class_of_type classes t.0 ≡ o → Next i kinds (met_class classes kinds o)
        class_case t e None f =
            done_at i kinds kinds (grown_none P kinds) (λ k x lt g. g)
            (λ x class u g c n p. absurd (let same : t ≡ x = cc in let r = read_of classes class c in let known = class_known app sound r.0 class r.1 in
            let none : class_of_type classes class.name.0 ≡ None = rw (n, ← same) f in cc))
        class_case t e (Some d) f =
            let found = class_found classes t.0 d f in
            let there = there_at classes d found.0 found.1 in
            let such : P found.0.name.0 = rw found.2 (all t.0 (told_kind kinds t (there_at kinds i t e))) in
            let grown : Grown P kinds (met_above kinds (Some found.0)) = grown_above kinds found.0 P (λ u p. up found.0 u there such p) in
            rw found.1
            (done_at i kinds (met_above kinds (Some found.0)) grown
            (λ k x lt g. let a = slice_get-get_or kinds k x (omega (arith, lt, slice_get_within kinds i t e)) in a ∙ sym (grown.front k _ a) ∙ g)
            (λ x class u g c n p. let same : t ≡ x = (let h = grown.front i t e in cc) in
            let is : class ≡ found.0 = same_class app sound class found.0 c there (n ∙ rw (← same) (sym found.2)) in
            has_above kinds found.0 u (subst (λ (z : ClassParts). IsParent z u) is p)))

        at : (o : Option TypeNo) → slice_get kinds i ≡ o → Next i kinds (met_next classes kinds o)
        at None e = done_at i kinds kinds (grown_none P kinds) (λ k x lt g. g) (λ x class u g c n p. absurd (cc))
        at (Some t) e = class_case t e (class_of_type classes t.0) refl

    record Ends (old new : List TypeNo) : Type 0 where
      grown : Grown P old new
      closed : ClosedBelow classes (length new) new

    walked : (n i : ℕ) (kinds : List TypeNo) → n + i ≡ count → IsDistinct eqb (numbers kinds) → ((u : ℕ) → has_kind kinds u ≡ true → P u) → ClosedBelow classes i kinds → Ends kinds (met_from classes n i kinds)
    walked zero i kinds e distinct all closed =
        let le = few count kinds distinct (λ u h. below u (all u h)) in
        record { grown = grown_none P kinds; closed = λ k t class u lt. closed k t class u (omega arith) }
    walked (suc n) i kinds e distinct all closed =
        let next = met_next classes kinds (slice_get kinds i) in
        let s = step i kinds all in
        let rest = walked n (i + 1) next (omega arith) (s.grown.distinct distinct) (λ u h. ⊎_elim (all u) (λ p. p) (s.grown.only u h)) (s.closed closed) in
        record { grown = grown_next P kinds next (met_from classes n (i + 1) next) s.grown rest.grown; closed = rest.closed }

  -- what is above a type of a closed list is in it
  right_above : (kinds : List TypeNo) → ClosedBelow classes (length kinds) kinds → (class : ClassParts) (t u : ℕ) → Contains classes class → class.name.0 ≡ t → IsParent class u → has_kind kinds t ≡ true → has_kind kinds u ≡ true
  right_above kinds closed class t u c is p h = let r = read_of kinds (record { 0 = t }) (kind_told kinds t h) in closed r.0 (record { 0 = t }) class u (slice_get_within kinds r.0 _ r.1) r.1 c is p

  reaches : (kinds : List TypeNo) → ClosedBelow classes (length kinds) kinds → (t u : ℕ) → IsAncestor classes t u → has_kind kinds t ≡ true → has_kind kinds u ≡ true
  reaches kinds closed t u (its_parent class c is p) h = right_above kinds closed class t u c is p h
  reaches kinds closed t u (further {u = v} class c is p rest) h = reaches kinds closed v u rest (right_above kinds closed class t v c is p h)

  nil_distinct : IsDistinct eqb []
  unfolding IsDistinct
  nil_distinct = tt

  module _ (class : ClassParts) where
    abbrev P : ℕ → Type 0
    P = IsBeside classes class

    abbrev first : List TypeNo
    first = met_all [] class.interfaces

    grown_first : Grown P [] first
    grown_first = grown_all P [] class.interfaces (λ t c. (t, c, inl refl))

    such : (u : ℕ) → has_kind first u ≡ true → P u
    such u h = ⊎_elim (λ none. absurd (false≢true none)) (λ p. p) (grown_first.only u h)

    beside_below : Contains classes class → (u : ℕ) → P u → u < count
    beside_below there u (i, c, inl e) = rw (← e) (parent_below class i.0 there (inr c))
    beside_below there u (i, c, inr a) = ancestor_below i.0 u a

    beside_up : (other : ClassParts) (u : ℕ) → Contains classes other → P other.name.0 → IsParent other u → P u
    beside_up other u c (i, k, inl e) p = (i, k, inr (its_parent other c (sym e) p))
    beside_up other u c (i, k, inr a) p = (i, k, inr (one_further classes other i.0 other.name.0 u a refl c p))

    abbrev all : List TypeNo
    all = met_from classes count 0 first

    ends : (there : Contains classes class) → Ends P (beside_below there) beside_up first all
    ends there = walked P (beside_below there) beside_up count 0 first (omega arith) (grown_first.distinct nil_distinct) such (λ k t c u lt. absurd (omega arith))

    inside : Contains classes class → (i : TypeNo) → Contains class.interfaces i → has_kind all i.0 ≡ true
    inside there i c = kept P first all (ends there).grown i.0 (has_all [] class.interfaces i c)

    pub beside_told : (u : ℕ) → Contains classes class → (has_kind (beside app class) u ≡ true) ↔ IsBeside classes class u
    beside_told u there = (
      λ h. ⊎_elim (such u) (λ p. p) ((ends there).grown.only u h),
      λ b. ⊎_elim (λ e. rw (← e) (inside there b.0 b.1)) (λ a. reaches all (ends there).closed b.0.0 u a (inside there b.0 b.1)) b.2,
    )
