-- What a search among superclasses and interfaces knows.
use Rattle.std.specs.Prelude.{ℕ, ◌≡◌, ◌<◌, ◌+◌, ◌%◌, ◌⊎◌, List, length, Bool, true, false, cond, sum_by, Option, Some, None, slice_get, slice_index, slice_index_or}
use Rattle.app_model.specs.Parts.{ClassParts}
use Rattle.app_model.specs.Ancestors.{IsParent, IsAncestor, IsCyclic}
use Rattle.app_link.specs.LinkFaults.{IsAcyclicBelow}

-- the ranks of a class's parents are below n; a type has its rank by number, past the list it is 0
abbrev pub AreParentsBelow : List ℕ → ClassParts → ℕ → Type 0
AreParentsBelow ranks class n = (u : ℕ) → IsParent class u → slice_index ranks u < n

-- a class of an even rank has parents of lower ranks, and one of an odd rank none of a higher
abbrev pub rank_limit : List ℕ → ℕ → ℕ
rank_limit ranks t = slice_index ranks t + slice_index ranks t % 2

abbrev pub AreRanked : List ℕ → List ClassParts → Type 0
AreRanked ranks classes = (k : ℕ) (class : ClassParts) → slice_get classes k ≡ Some class → AreParentsBelow ranks class (rank_limit ranks class.name.0)

-- the parents of the classes are types below n
abbrev pub AreTypesBelow : List ClassParts → ℕ → Type 0
AreTypesBelow classes n = (k : ℕ) (class : ClassParts) → slice_get classes k ≡ Some class → (u : ℕ) → IsParent class u → u < n

-- a type is marked
abbrev pub IsMarked : List Bool → ℕ → Type 0
IsMarked marks u = slice_index_or marks u false ≡ true

-- how many are not
abbrev pub unmarked : List Bool → ℕ
unmarked marks = sum_by (λ (mark : Bool). cond mark 0 1) marks

-- some types were marked, all of them such; or none was
pub record Marks (old new : List Bool) (changed : Bool) (P : ℕ → Type 0) : Type 0 where
  pub len : length new ≡ length old
  pub only : (u : ℕ) → IsMarked new u → IsMarked old u ⊎ P u
  pub kept : (u : ℕ) → IsMarked old u → IsMarked new u
  pub same : changed ≡ false → new ≡ old
  pub fewer : changed ≡ true → unmarked new < unmarked old

-- only such types were marked
pub record Climbs (old new : List Bool) (P : ℕ → Type 0) : Type 0 where
  pub len : length new ≡ length old
  pub only : (u : ℕ) → IsMarked new u → IsMarked old u ⊎ P u

-- only types above t are marked
abbrev pub AreAncestors : List ClassParts → ℕ → List Bool → Type 0
AreAncestors classes t marks = (u : ℕ) → IsMarked marks u → IsAncestor classes t u

-- t is the class's name, or the name is marked
abbrev pub IsMet : ℕ → List Bool → ClassParts → Type 0
IsMet t marks class = (class.name.0 ≡ t) ⊎ IsMarked marks class.name.0

-- a class that is met has its parents marked
abbrev pub IsDone : ℕ → List Bool → ClassParts → Type 0
IsDone t marks class = IsMet t marks class → (u : ℕ) → IsParent class u → IsMarked marks u

-- each of the first n classes does
abbrev pub AreDone : List ClassParts → ℕ → List Bool → ℕ → Type 0
AreDone classes t marks n = (k : ℕ) (class : ClassParts) → k < n → slice_get classes k ≡ Some class → IsDone t marks class

-- the first class that is its own ancestor
abbrev pub IsCycleAnswer : List ClassParts → Option ℕ → Type 0
IsCycleAnswer classes None = IsAcyclicBelow classes (length classes)
IsCycleAnswer classes (Some c) = IsAcyclicBelow classes c × (class : ClassParts) × (slice_get classes c ≡ Some class) × IsCyclic classes class
