-- What rules derive. A rule is a relation: the facts that an instance of it needs, and the fact that it leads to.
use Rattle.std.specs.Prelude.{◌≡◌, ◌⊎◌, Bool, true, List, [], ◌∷◌}
use Rattle.app_model.specs.Facts.{Fact}

-- a set of facts, as a test
abbrev pub Set : Type 0
Set = Fact → Bool

abbrev pub HasAll : Set → List Fact → Type 0
HasAll set [] = Unit {0}
HasAll set (f ∷ fs) = (set f ≡ true) × HasAll set fs

-- all these facts are derived from the given ones
pub data Derived (rules : List Fact → Fact → Type 0) (given : Set) : List Fact → Type 0 where
  all_done : Derived rules given []
  is_given : {f : Fact} {fs : List Fact} → given f ≡ true → Derived rules given fs → Derived rules given (f ∷ fs)
  by_rule : {f : Fact} {needs fs : List Fact} → rules needs f → Derived rules given needs → Derived rules given fs → Derived rules given (f ∷ fs)

-- no rule leads out of the set
pub record IsClosed (rules : List Fact → Fact → Type 0) (set : Set) : Type 0 where
  pub by : (needs : List Fact) (f : Fact) → rules needs f → HasAll set needs → set f ≡ true

-- the set has the facts that are derived from the given ones, and no other
pub record IsLeast (rules : List Fact → Fact → Type 0) (given set : Set) : Type 0 where
  pub sound : (f : Fact) → set f ≡ true → Derived rules given (f ∷ [])
  pub complete : (f : Fact) → Derived rules given (f ∷ []) → set f ≡ true

-- two lists of rules as one
abbrev pub Either : (List Fact → Fact → Type 0) → (List Fact → Fact → Type 0) → List Fact → Fact → Type 0
Either a b needs f = a needs f ⊎ b needs f

abbrev pub Among : Fact → List Fact → Type 0
Among f [] = ⊥
Among f (g ∷ gs) = (f ≡ g) ⊎ Among f gs

abbrev pub AllAmong : List Fact → List Fact → Type 0
AllAmong [] gs = Unit {0}
AllAmong (f ∷ fs) gs = Among f gs × AllAmong fs gs

-- the same as a list, the newest fact first: each is given, or follows by one rule from those after it
abbrev pub IsDerivation : (List Fact → Fact → Type 0) → Set → List Fact → Type 0
IsDerivation rules given [] = Unit {0}
IsDerivation rules given (f ∷ fs) =
    ((given f ≡ true) ⊎ ((needs : List Fact) × rules needs f × AllAmong needs fs)) × IsDerivation rules given fs

-- a derivation ends in the fact
abbrev pub EndsIn : (List Fact → Fact → Type 0) → Set → Fact → Type 0
EndsIn rules given f = (fs : List Fact) × IsDerivation rules given (f ∷ fs)
