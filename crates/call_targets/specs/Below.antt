-- The classes of the application that an object of one type may be of, found by a walk down from that type.
use Rattle.std.specs.Prelude.{ℕ, ◌≡◌, ◌<◌, ◌⊎◌, ◌↔◌, ◌||◌, ◌&&◌, not, if◌then◌else◌, Bool, true, false, List, [], ◌∷◌, ◌++◌, length, Option, Some, None, option_map, is_none, is_some, filter_map, slice_get, slice_index_or, Contains}
use Rattle.ns_base.specs.declared.rows.ClassNo.{ClassNo}
use Rattle.ns_base.specs.declared.rows.TypeNo.{TypeNo}
use Rattle.app_model.specs.Ancestors.{IsParent}
use Rattle.app_model.specs.Hierarchy.{class_of_type, is_unknown, may_be_sub, parent_of, superclass_at}
use Rattle.app_model.specs.Parts.{AppParts, ClassParts}
use Rattle.class_graph.specs.Walks.{has_kind}

abbrev pub class_no : ℕ → ClassNo
class_no c = record { 0 = c }

abbrev pub may_be : AppParts → (kind : ℕ) → ClassParts → Bool
may_be app kind class = may_be_sub app (Some class.name.0) kind

-- class c may be of the type
pub record IsBelow (app : AppParts) (kind c : ℕ) : Type 0 where
  pub class : ClassParts
  pub there : slice_get app.classes c ≡ Some class
  pub may : may_be app kind class ≡ true

-- ---- the classes right below each type, by their names
abbrev pub right_below : List (List TypeNo) → ℕ → List TypeNo
right_below lists t = slice_index_or lists t []

-- a class of that name has the type as a parent
pub record IsChild (classes : List ClassParts) (t : ℕ) (u : TypeNo) : Type 0 where
  pub class : ClassParts
  pub there : Contains classes class
  pub named : class.name ≡ u
  pub parent : IsParent class t

pub record AreChildren (classes : List ClassParts) (types : ℕ) (lists : List (List TypeNo)) : Type 0 where
  pub len : length lists ≡ types
  pub told : (t : ℕ) (u : TypeNo) → Contains (right_below lists t) u ↔ IsChild classes t u

-- a class was put under such types
pub record Puts (Under : ℕ → Type 0) (class : TypeNo) (old new : List (List TypeNo)) : Type 0 where
  pub len : length new ≡ length old
  pub told : (t : ℕ) (u : TypeNo) → Contains (right_below new t) u ↔ (Contains (right_below old t) u ⊎ (Under t × (class ≡ u)))

-- ---- a walk: how many types there are, and which were met
pub record WalkParts : Type 0 where
  pub types : ℕ
  pub kinds : List TypeNo

abbrev pub walk_of : (types : ℕ) → List TypeNo → WalkParts
walk_of types kinds = record { types = types; kinds = kinds }

-- it begins with the type, and where that is none of the application's with each of which the files say nothing
abbrev pub IsStart : AppParts → (kind bound t : ℕ) → Type 0
IsStart app kind bound t = (t ≡ kind) ⊎ ((class_of_type app.classes kind ≡ None) × (t < bound) × (is_unknown app t ≡ true))

-- types that may be of this one were met: where it begins, as far as the bound, and what is right below the first n that were met
pub record IsWalked (app : AppParts) (kind bound n : ℕ) (kinds : List TypeNo) : Type 0 where
  pub starts : (t : ℕ) → IsStart app kind bound t → has_kind kinds t ≡ true
  pub only : (u : ℕ) → has_kind kinds u ≡ true → may_be_sub app (Some u) kind ≡ true
  pub down : (k : ℕ) (t u : TypeNo) → k < n → slice_get kinds k ≡ Some t → IsChild app.classes t.0 u → has_kind kinds u.0 ≡ true

-- the classes that were met are those that may be of the type
abbrev pub TellsBelow : AppParts → (kind : ℕ) → List TypeNo → Type 0
TellsBelow app kind kinds = (class : ClassParts) → Contains app.classes class → has_kind kinds class.name.0 ≡ may_be app kind class

-- ---- roots: classes whose superclass is one of the application's and was not met; where few were met, all of these
abbrev pub is_met : List TypeNo → Option TypeNo → Bool
is_met kinds None = false
is_met kinds (Some t) = has_kind kinds t.0

abbrev pub is_root : AppParts → List TypeNo → (few : Bool) → ClassNo → Bool
is_root app kinds few c = few || (is_some (superclass_at app.classes c.0) && not (is_met kinds (parent_of (slice_get app.classes c.0))))

abbrev pub root_from : AppParts → List TypeNo → (few : Bool) → Option ClassNo → Option ClassNo
root_from app kinds few None = None
root_from app kinds few (Some c) = if is_root app kinds few c then Some c else None

abbrev pub with_some : List ClassNo → Option ClassNo → List ClassNo
with_some cs None = cs
with_some cs (Some c) = cs ++ c ∷ []

abbrev pub class_at : AppParts → TypeNo → Option ClassNo
class_at app t = option_map class_no (class_of_type app.classes t.0)

abbrev pub roots_of : AppParts → (few : Bool) → List TypeNo → List TypeNo → List ClassNo
roots_of app few kinds some = filter_map (λ t. root_from app kinds few (class_at app t)) some

-- tops: those with no superclass in the application. What they inherit is outside
abbrev pub top_from : AppParts → Option ClassNo → Option ClassNo
top_from app None = None
top_from app (Some c) = if is_none (superclass_at app.classes c.0) then Some c else None

abbrev pub tops_of : AppParts → List TypeNo → List ClassNo
tops_of app kinds = filter_map (λ t. top_from app (class_at app t)) kinds

pub record BelowParts : Type 0 where
  pub walk : WalkParts
  pub few : Bool
  pub roots : List ClassNo
  pub tops : List ClassNo

-- what is known of the classes below a type; tops are told where the type is one of the application's
pub record IsReady (app : AppParts) (kind : ℕ) (below : BelowParts) : Type 0 where
  pub types : below.walk.types ≡ length app.types
  pub tells : TellsBelow app kind below.walk.kinds
  pub roots : below.roots ≡ roots_of app below.few below.walk.kinds below.walk.kinds
  pub tops : below.tops ≡ (if below.few || is_none (class_of_type app.classes kind) then [] else tops_of app below.walk.kinds)

-- a class that was met
abbrev pub is_met_row : List TypeNo → Option ClassParts → Bool
is_met_row kinds None = false
is_met_row kinds (Some class) = has_kind kinds class.name.0

abbrev pub is_met_class : AppParts → List TypeNo → ClassNo → Bool
is_met_class app kinds c = is_met_row kinds (slice_get app.classes c.0)
