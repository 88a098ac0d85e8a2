-- Members with their numbers, and rows that grow.
use Rattle.std.proofs.Common.{◌≡◌, ◌≢◌, ℕ, suc, ◌+◌, ◌<◌, ◌++◌, ◌&&◌, Bool, true, false, cond, List, [], ◌∷◌, length, map, take, refl, sym, ap, ap₂, ◌∙◌, ⊎_elim, arith, eqb, eq-eqb, Option, Some, None, position, slice_get}
use Rattle.std.specs.Prelude.{not}
use Rattle.std.specs.List.{position_from}
use Rattle.std.specs.Map.{lookup}
use Rattle.std.specs.Option.{unwrap_or}
use Rattle.std.proofs.lemmas.Bool.{and_parts, and_right, eqb-true, ne_eqb}
use Rattle.std.proofs.lemmas.Iterator.Adapters.{position_from-zero}
use Rattle.std.proofs.lemmas.List.{length-take-le, map_more, take_more}
use Rattle.std.proofs.lemmas.Option.{get_or_from_slice_get, slice_get_cases, slice_get_within}
use Rattle.app_model.specs.Hierarchy.{or_else}
use Rattle.class_graph.specs.declared.members.Member.{Member}
use Rattle.class_graph.specs.Built.{AreMembers}
use Rattle.class_graph.specs.Graph.{member_in, member_of, same_member}

-- ---- the first that passes, with one more at the end
or_if : (b : Bool) (a : ℕ) (x y z : Option ℕ) → x ≡ or_else y z → cond b (Some a) x ≡ or_else (cond b (Some a) y) z
or_if true a x y z e = refl
or_if false a x y z e = e

from_push : {X : Type 0} (p : X → Bool) (i : ℕ) (xs : List X) (x : X) → position_from p i (xs ++ x ∷ []) ≡ or_else (position_from p i xs) (cond (p x) (Some (i + length xs)) None)
from_push p i [] x = let e : i + 0 ≡ i = omega arith in rw e refl
from_push p i (y ∷ xs) x =
    let e : i + suc (length xs) ≡ i + 1 + length xs = omega arith in
    or_if (p y) _ _ (position_from p (i + 1) xs) _ (rw e (from_push p (i + 1) xs x))

position_push : {X : Type 0} (p : X → Bool) (xs : List X) (x : X) → position p (xs ++ x ∷ []) ≡ or_else (position p xs) (cond (p x) (Some (length xs)) None)
position_push p xs x = let e : 0 + length xs ≡ length xs = omega arith in position_from-zero p (xs ++ x ∷ []) ∙ rw e at (from_push p 0 xs x) ∙ ap (λ o. or_else o (cond (p x) (Some (length xs)) None)) (sym (position_from-zero p xs))

or_none : (o : Option ℕ) → o ≡ or_else o None
or_none None = refl
or_none (Some n) = refl

-- ---- members with their numbers
one_member : (a b : Member) → same_member a b ≡ true → b ≡ a
one_member a b e =
    let own = and_parts _ _ e in
    let rest = and_parts _ _ own.1 in
    let class = eqb-true a.class b.class own.0 in
    let name = eqb-true a.name b.name rest.0 in
    let second = eqb-true a.second b.second rest.1 in
    rw class (rw name (rw second refl))

-- the number of an equal member stays
pub added_one : (old : List (Member × ℕ)) (member : Member) (first n : ℕ) (q : Member) → first ≡ unwrap_or (lookup (same_member member) old) n
    → cond (same_member member q) (Some first) (lookup (same_member q) old) ≡ or_else (lookup (same_member q) old) (cond (same_member member q) (Some n) None)
added_one old member first n q is = by (same_member member q) refl
  where
    one : (o : Option ℕ) → first ≡ unwrap_or o n → Some first ≡ or_else o (Some n)
    one None e = ap Some e
    one (Some m) e = ap Some e

    by : (b : Bool) → same_member member q ≡ b → cond b (Some first) (lookup (same_member q) old) ≡ or_else (lookup (same_member q) old) (cond b (Some n) None)
    by true e = one _ (is ∙ ap (λ (m : Member). unwrap_or (lookup (same_member m) old) n) (sym (one_member member q e)))
    by false e = or_none _

-- ---- members among the first n
module _ {X : Type 0} (test : (name second c : ℕ) → X → Bool) (xs : List X) (n : ℕ) (x : X) (read : slice_get xs n ≡ Some x) where
  next_position : (name second c : ℕ) → position (test name second c) (take (n + 1) xs) ≡ or_else (position (test name second c) (take n xs)) (cond (test name second c x) (Some n) None)
  next_position name second c =
      let within = slice_get_within xs n x read in
      let len : length (take n xs) ≡ n = length-take-le n xs (omega (arith, within)) in
      ap (position (test name second c)) (take_more xs n x within ∙ ap (λ y. take n xs ++ y ∷ []) (get_or_from_slice_get xs n x x read))
      ∙ position_push (test name second c) (take n xs) x ∙ ap (λ k. or_else (position (test name second c) (take n xs)) (cond (test name second c x) (Some k) None)) len

  -- an element that is no member
  pub members_same : (members : List (Member × ℕ)) → ((name second c : ℕ) → test name second c x ≡ false) → AreMembers test xs n members → AreMembers test xs (n + 1) members
  members_same members off before name second c =
      before name second c ∙ or_none _ ∙ sym (next_position name second c ∙ ap (λ b. or_else (position (test name second c) (take n xs)) (cond b (Some n) None)) (off name second c))

  -- one that is the next member
  pub members_more : (old new : List (Member × ℕ)) (member : Member) → ((name second c : ℕ) → test name second c x ≡ same_member member (member_of name second c))
      → ((name second c : ℕ) → member_in new name second c ≡ or_else (member_in old name second c) (cond (same_member member (member_of name second c)) (Some n) None))
      → AreMembers test xs n old → AreMembers test xs (n + 1) new
  members_more old new member same added before name second c =
      added name second c
      ∙ ap₂ (λ (o : Option ℕ) (b : Bool). or_else o (cond b (Some n) None)) (before name second c) (sym (same name second c))
      ∙ sym (next_position name second c)

-- ---- abstract methods
pub abstract_off : (a b c : Bool) (n : ℕ) → n ≢ 0 → (a && (b && (c && not (not (eqb n 0))))) ≡ false
abstract_off a b c n ne = and_right a _ (and_right b _ (and_right c _ (rw (ne_eqb n 0 ne) refl)))

pub concrete_on : (a b c : Bool) (n : ℕ) → n ≡ 0 → (a && (b && (c && not (not (eqb n 0))))) ≡ (a && (b && c))
concrete_on a b c n is = ap (λ x. a && (b && x)) (rw (eq-eqb n 0 is) (on c))
  where
    on : (c : Bool) → (c && true) ≡ c
    on true = refl
    on false = refl

-- ---- one more row
pub map_push : {X Y : Type 0} (f : X → Y) (xs : List X) (n : ℕ) (ys : List Y) (y : Y) → n < length xs → ys ≡ map f (take n xs) → ((x : X) → slice_get xs n ≡ Some x → y ≡ f x)
    → ys ++ y ∷ [] ≡ map f (take (n + 1) xs)
map_push {Y = Y} f xs n ys y within before is = ⊎_elim
    (λ here. ap₂ (λ (zs : List Y) (z : Y). zs ++ z ∷ []) before (is here.0 here.2 ∙ ap f (sym here.3)) ∙ sym (map_more f xs n _ within))
    (λ past. absurd (omega (arith, within, past.0))) (slice_get_cases xs n).1
