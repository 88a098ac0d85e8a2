-- Which type stands above another, by the superclasses and interfaces of classes.
use Rattle.std.specs.Prelude.{ℕ, ◌≡◌, ◌⊎◌, List, Contains, Some}
use Rattle.app_model.specs.Parts.{ClassParts}

-- a class has this superclass, or interface
abbrev pub IsParent : ClassParts → ℕ → Type 0
IsParent class t = (class.parent ≡ Some (record { 0 = t })) ⊎ Contains class.interfaces (record { 0 = t })

-- type u stands above type t: a class of that name has it as a parent, or has a parent that it stands above
pub data IsAncestor (classes : List ClassParts) : ℕ → ℕ → Type 0 where
  its_parent : {t u : ℕ} (class : ClassParts) → Contains classes class → class.name.0 ≡ t → IsParent class u → IsAncestor classes t u
  further : {t u v : ℕ} (class : ClassParts) → Contains classes class → class.name.0 ≡ t → IsParent class u → IsAncestor classes u v → IsAncestor classes t v

-- a class that is its own ancestor
abbrev pub IsCyclic : List ClassParts → ClassParts → Type 0
IsCyclic classes class = IsAncestor classes class.name.0 class.name.0
