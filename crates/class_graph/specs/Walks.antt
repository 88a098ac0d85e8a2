-- A walk up from the interfaces of a class: the types that it meets, each once.
use Rattle.std.specs.Prelude.{ℕ, zero, suc, ◌≡◌, ◌<◌, ◌≤◌, ◌+◌, ◌==◌, ◌++◌, if◌then◌else◌, Bool, List, [], ◌∷◌, length, Option, Some, None, slice_get, slice_index_or}
use Rattle.std.specs.List.{list_any}
use Rattle.ns_base.specs.declared.rows.TypeNo.{TypeNo}
use Rattle.app_model.specs.Hierarchy.{class_of_type, is_type}
use Rattle.app_model.specs.Parts.{AppParts, ClassParts}

abbrev pub has_kind : List TypeNo → ℕ → Bool
has_kind kinds u = list_any (is_type u) kinds

-- one more type, if it is new
abbrev pub met : List TypeNo → TypeNo → List TypeNo
met kinds t = if has_kind kinds t.0 then kinds else kinds ++ t ∷ []

abbrev pub met_all : List TypeNo → List TypeNo → List TypeNo
met_all kinds [] = kinds
met_all kinds (t ∷ ts) = met_all (met kinds t) ts

abbrev pub met_parent : List TypeNo → Option TypeNo → List TypeNo
met_parent kinds None = kinds
met_parent kinds (Some t) = met kinds t

-- the superclass and the interfaces of a class
abbrev pub met_above : List TypeNo → Option ClassParts → List TypeNo
met_above kinds None = kinds
met_above kinds (Some class) = met_all (met_parent kinds class.parent) class.interfaces

abbrev pub met_class : List ClassParts → List TypeNo → Option ℕ → List TypeNo
met_class classes kinds None = kinds
met_class classes kinds (Some c) = met_above kinds (slice_get classes c)

abbrev pub met_next : List ClassParts → List TypeNo → Option TypeNo → List TypeNo
met_next classes kinds None = kinds
met_next classes kinds (Some t) = met_class classes kinds (class_of_type classes t.0)

-- what is above the types from place i on, for n places
abbrev pub met_from : List ClassParts → (n i : ℕ) → List TypeNo → List TypeNo
met_from classes zero i kinds = kinds
met_from classes (suc n) i kinds = met_from classes n (i + 1) (met_next classes kinds (slice_get kinds i))

-- the interfaces of a class, and all above them
abbrev pub beside : AppParts → ClassParts → List TypeNo
beside app class = met_from app.classes (length app.types) 0 (met_all [] class.interfaces)

-- ---- a walk as its crate sees it: how many types there are, the number of the walk, the types met
pub record WalkParts : Type 0 where
  pub types : ℕ
  pub turn : ℕ
  pub kinds : List TypeNo

abbrev pub with_kinds : WalkParts → List TypeNo → WalkParts
with_kinds walk kinds = record { types = walk.types; turn = walk.turn; kinds = kinds }

-- each type is marked with the last walk that met it
pub record IsWalk (marks : List ℕ) (turn : ℕ) (kinds : List TypeNo) : Type 0 where
  pub each : (t : ℕ) → t < length marks → (slice_index_or marks t 0 == turn) ≡ has_kind kinds t
  pub past : (t : ℕ) → slice_index_or marks t 0 ≤ turn
