-- Marks and ranks of types by superclasses and interfaces.
use Rattle.std.proofs.Common.{◌≡◌, ◌<◌, ◌≤◌, ◌+◌, ◌||◌, ◌%◌, ◌⊎◌, ℕ, zero, suc, Bool, true, false, List, [], ◌∷◌, length, get_or, replicate, slice_get, slice_index, Option, Some, Contains, refl, sym, ap, subst, ◌∙◌, inl, inr, ⊎_elim, arith}
use Rattle.std.proofs.lemmas.Bool.{cases_lt}
use Rattle.ns_base.specs.declared.rows.TypeNo.{TypeNo}
use Rattle.app_model.specs.Parts.{ClassParts}
use Rattle.app_model.specs.Ancestors.{IsParent, IsAncestor, its_parent, further}
use Rattle.app_link.specs.Cycles.{rank_limit, AreRanked, Marks, IsMarked, IsMet, AreAncestors, AreDone, unmarked, Climbs}

-- the element at a place, in two ways
get_at : {X : Type 0} (xs : List X) (i : ℕ) (x : X) → i < length xs → get_or xs i x ≡ x → slice_get xs i ≡ Some x
get_at [] i x below is = absurd (omega arith)
get_at (y ∷ ys) zero x below is = ap Some is
get_at (y ∷ ys) (suc i) x below is = get_at ys i x (omega arith) is

pub at_get : {X : Type 0} (xs : List X) (i : ℕ) (x : X) → slice_get xs i ≡ Some x → (i < length xs) × (get_or xs i x ≡ x)
at_get [] i x is = absurd (let bad : ⊥ = cc in bad)
at_get (y ∷ ys) zero x is = (omega arith, cc)
at_get (y ∷ ys) (suc i) x is = let rest = at_get ys i x is in (omega (arith, rest.0), rest.1)

pub contains_at : {X : Type 0} (xs : List X) (i : ℕ) (x : X) → slice_get xs i ≡ Some x → Contains xs x
contains_at xs i x is = let at = at_get xs i x is in (i, at.0, at.1)

pub same_at : {X : Type 0} (xs : List X) (i : ℕ) (x y : X) → slice_get xs i ≡ Some x → y ≡ get_or xs i y → x ≡ y
same_at [] i x y is other = absurd (let bad : ⊥ = cc in bad)
same_at (z ∷ zs) zero x y is other = cc
same_at (z ∷ zs) (suc i) x y is other = same_at zs i x y is other

pub got_at : {X : Type 0} (xs : List X) (i : ℕ) (y : X) → i < length xs → y ≡ get_or xs i y → slice_get xs i ≡ Some y
got_at xs i y below is = get_at xs i y below (sym is)

pub get_there : {X : Type 0} (xs : List X) (i : ℕ) (d : X) → i < length xs → slice_get xs i ≡ Some (get_or xs i d)
get_there [] i d below = absurd (omega arith)
get_there (y ∷ ys) zero d below = refl
get_there (y ∷ ys) (suc i) d below = get_there ys i d (omega arith)

-- one more of the first n
pub below_more : (P : ℕ → Type 0) (n : ℕ) → ((k : ℕ) → k < n → P k) → P n → (k : ℕ) → k < n + 1 → P k
below_more P n all one k below = ⊎_elim (λ less. all k less) (λ (least : n ≤ k). let is : n ≡ k = omega arith in subst P is one) (cases_lt k n)

-- what holds of the superclass and of the interfaces holds of all parents
pub of_parents : (P : ℕ → Type 0) (class : ClassParts) (above : Option TypeNo) (list : List TypeNo) → class.parent ≡ above → class.interfaces ≡ list
    → ((u : ℕ) → above ≡ Some (record { 0 = u }) → P u) → ((i : ℕ) (t : TypeNo) → slice_get list i ≡ Some t → P t.0) → (u : ℕ) → IsParent class u → P u
of_parents P class above list is are one all u (inl p) = one u (sym is ∙ p)
of_parents P class above list is are one all u (inr at) =
    all at.0 (record { 0 = u }) (ap (λ l. slice_get l at.0) (sym are) ∙ get_at class.interfaces at.0 (record { 0 = u }) at.1 at.2)

-- interfaces are parents
pub as_interface : (class : ClassParts) (list : List TypeNo) (i : ℕ) (t : TypeNo) → class.interfaces ≡ list → slice_get list i ≡ Some t → IsParent class t.0
as_interface class list i t are at = inr (contains_at class.interfaces i t (ap (λ l. slice_get l i) are ∙ at))

pub either : (a b : Bool) → (a || b) ≡ false → (a ≡ false) × (b ≡ false)
either false b neither = (refl, neither)
either true b neither = absurd (let bad : ⊥ = cc in bad)

-- more marks after some
pub marks_more : (old mid new : List Bool) (a b : Bool) (P Q : ℕ → Type 0) → Marks old mid a P → Marks mid new b Q → ((u : ℕ) → Q u → P u) → Marks old new (a || b) P
marks_more old mid new a b P Q first next within = record {
  len = next.len ∙ first.len;
  only = λ u marked. ⊎_elim (first.only u) (λ q. inr (within u q)) (next.only u marked);
  kept = λ u marked. next.kept u (first.kept u marked);
  same = λ none. let both = either a b none in next.same both.1 ∙ first.same both.0;
  fewer = by a b first next;
}
  where
    by : (a b : Bool) → Marks old mid a P → Marks mid new b Q → (a || b) ≡ true → unmarked new < unmarked old
    by true true f t = λ yes. let x = f.fewer refl in let y = t.fewer refl in omega arith
    by true false f t = λ yes. let x = f.fewer refl in subst (λ m. unmarked m < unmarked old) (sym (t.same refl)) x
    by false true f t = λ yes. let x = t.fewer refl in subst (λ m. unmarked new < unmarked m) (f.same refl) x
    by false false f t = λ yes. absurd (let bad : ⊥ = cc in bad)

pub marks_wider : (old new : List Bool) (a : Bool) (P Q : ℕ → Type 0) → Marks old new a P → ((u : ℕ) → P u → Q u) → Marks old new a Q
marks_wider old new a P Q h within = record {
  len = h.len;
  only = λ u marked. ⊎_elim inl (λ p. inr (within u p)) (h.only u marked);
  kept = h.kept;
  same = h.same;
  fewer = h.fewer;
}

-- the same, where more types may have been marked
pub climbs_more : (old mid new : List Bool) (P Q : ℕ → Type 0) → Climbs old mid P → Climbs mid new Q → ((u : ℕ) → Q u → P u) → Climbs old new P
climbs_more old mid new P Q first next within = record {
  len = next.len ∙ first.len;
  only = λ u marked. ⊎_elim (first.only u) (λ q. inr (within u q)) (next.only u marked);
}

pub climbs_wider : (old new : List Bool) (P Q : ℕ → Type 0) → Climbs old new P → ((u : ℕ) → P u → Q u) → Climbs old new Q
climbs_wider old new P Q h within = record {
  len = h.len;
  only = λ u marked. ⊎_elim inl (λ p. inr (within u p)) (h.only u marked);
}

-- fewer are unmarked after more marks
pub unmarked_more : (first mid new : List Bool) (a b : Bool) (P : ℕ → Type 0) → (a ≡ true → unmarked mid < unmarked first) → unmarked mid ≤ unmarked first → Marks mid new b P
    → ((a || b) ≡ true → unmarked new < unmarked first) × (unmarked new ≤ unmarked first)
unmarked_more first mid new a true P fewer least next =
    let x = next.fewer refl in
    (λ yes. omega arith, omega arith)
unmarked_more first mid new true false P fewer least next =
    let x = fewer refl in
    (λ yes. subst (λ m. unmarked m < unmarked first) (sym (next.same refl)) x, subst (λ m. unmarked m ≤ unmarked first) (sym (next.same refl)) least)
unmarked_more first mid new false false P fewer least next =
    (λ yes. absurd (let bad : ⊥ = cc in bad), subst (λ m. unmarked m ≤ unmarked first) (sym (next.same refl)) least)

-- a parent of what is above t is above t
above : (classes : List ClassParts) (t v u : ℕ) (class : ClassParts) → IsAncestor classes t v → Contains classes class → class.name.0 ≡ v → IsParent class u → IsAncestor classes t u
above classes t v u class (its_parent k there named p) at name q = further k there named p (its_parent class at name q)
above classes t v u class (further k there named p rest) at name q = further k there named p (above classes _ v u class rest at name q)

pub met_parent : (classes : List ClassParts) (t : ℕ) (marks : List Bool) (c : ℕ) (class : ClassParts) (u : ℕ) → AreAncestors classes t marks → slice_get classes c ≡ Some class
    → IsMet t marks class → IsParent class u → IsAncestor classes t u
met_parent classes t marks c class u all at (inl name) p = its_parent class (contains_at classes c class at) name p
met_parent classes t marks c class u all at (inr marked) p = above classes t class.name.0 u class (all class.name.0 marked) (contains_at classes c class at) refl p

-- after a climb from a class that is met only ancestors are marked
pub climbs_up : (classes : List ClassParts) (t : ℕ) (old new : List Bool) (c : ℕ) (class : ClassParts) → slice_get classes c ≡ Some class
    → Climbs old new (λ u. IsMet t old class × IsParent class u) → AreAncestors classes t old → AreAncestors classes t new
climbs_up classes t old new c class at h all = λ u marked.
    ⊎_elim (all u) (λ p. met_parent classes t old c class u all at p.0 p.1) (h.only u marked)

-- where all are done, what is above t is marked
pub marked_all : (classes : List ClassParts) (t : ℕ) (marks : List Bool) (s v : ℕ) → AreDone classes t marks (length classes) → IsAncestor classes s v → (s ≡ t) ⊎ IsMarked marks s → IsMarked marks v
marked_all classes t marks s v done (its_parent class there name p) met =
    done there.0 class there.1 (get_at classes there.0 class there.1 there.2) (⊎_elim (λ is. inl (name ∙ is)) (λ m. inr (subst (IsMarked marks) (sym name) m)) met) v p
marked_all classes t marks s v done (further class there name p rest) met =
    marked_all classes t marks _ v done rest
    (inr (done there.0 class there.1 (get_at classes there.0 class there.1 there.2) (⊎_elim (λ is. inl (name ∙ is)) (λ m. inr (subst (IsMarked marks) (sym name) m)) met) _ p))

-- nothing is marked at first
pub none_marked : (n u : ℕ) → IsMarked (replicate n false) u → ⊥
none_marked zero u marked = absurd (let bad : ⊥ = cc in bad)
none_marked (suc n) zero marked = absurd (let bad : ⊥ = cc in bad)
none_marked (suc n) (suc u) marked = none_marked n u marked

-- ranks go down
pub rank_down : (ranks : List ℕ) (classes : List ClassParts) (t v : ℕ) → AreRanked ranks classes → IsAncestor classes t v → slice_index ranks v < rank_limit ranks t
rank_down ranks classes t v ranked (its_parent class there name p) =
    subst (λ s. slice_index ranks v < rank_limit ranks s) name (ranked there.0 class (get_at classes there.0 class there.1 there.2) v p)
rank_down ranks classes t v ranked (further {u = u} class there name p rest) =
    let one = subst (λ s. slice_index ranks u < rank_limit ranks s) name (ranked there.0 class (get_at classes there.0 class there.1 there.2) u p) in
    let more = rank_down ranks classes u v ranked rest in
    omega arith

pub even_is_none : (ranks : List ℕ) (classes : List ClassParts) (t : ℕ) → AreRanked ranks classes → slice_index ranks t % 2 ≡ 0 → IsAncestor classes t t → ⊥
even_is_none ranks classes t ranked even cyclic = let down = rank_down ranks classes t t ranked cyclic in absurd (omega arith)
