-- What the parts of a class hierarchy hold.
use Rattle.std.specs.Prelude.{ℕ, ◌≡◌, ◌||◌, ◌&&◌, ◌==◌, Bool, false, List, length, map, take, Option, Some, None, option_map, position, slice_get, not}
use Rattle.std.specs.List.{list_any}
use Rattle.ns_base.specs.declared.rows.ClassNo.{ClassNo}
use Rattle.ns_base.specs.declared.rows.TypeNo.{TypeNo}
use Rattle.app_model.specs.declared.rows.FieldRow.{FieldRow}
use Rattle.app_model.specs.declared.rows.MethodRow.{MethodRow}
use Rattle.app_model.specs.Hierarchy.{class_of_type, is_abstract, is_unknown}
use Rattle.app_model.specs.Parts.{AppParts, ClassParts}
use Rattle.class_graph.specs.declared.members.Member.{Member}
use Rattle.class_graph.specs.declared.kinds.KindRow.{KindRow}
use Rattle.class_graph.specs.Graph.{AboveParts, GraphParts, member_in}
use Rattle.class_graph.specs.Walks.{beside}

-- ---- types
pub record IsKind (app : AppParts) (t : ℕ) (kind : KindRow) : Type 0 where
  pub class : option_map (λ (c : ClassNo). c.0) kind.class ≡ class_of_type app.classes t
  pub unknown : kind.unknown ≡ is_unknown app t

pub record AreKinds (app : AppParts) (kinds : List KindRow) : Type 0 where
  pub len : length kinds ≡ length app.types
  pub each : (t : ℕ) (kind : KindRow) → slice_get kinds t ≡ Some kind → IsKind app t kind

-- ---- classes
abbrev pub is_unknown_parent : AppParts → Option TypeNo → Bool
is_unknown_parent app None = false
is_unknown_parent app (Some t) = is_unknown app t.0

abbrev pub has_unknown : AppParts → List TypeNo → Bool
has_unknown app kinds = list_any (λ (t : TypeNo). is_unknown app t.0) kinds

abbrev pub above_of : AppParts → ClassParts → AboveParts
above_of app class = record { parent = class.parent; kinds = beside app class; unknown = is_unknown_parent app class.parent || has_unknown app (beside app class) }

-- ---- members among the first n
abbrev pub is_method : (name proto c : ℕ) → MethodRow → Bool
is_method name proto c method = method.class.0 == c && (method.name.0 == name && (method.proto.0 == proto && not (is_abstract method.flags)))

abbrev pub is_field : (name kind c : ℕ) → FieldRow → Bool
is_field name kind c field = field.class.0 == c && (field.name.0 == name && field.kind.0 == kind)

abbrev pub AreMembers : {X : Type 0} → (test : (name second c : ℕ) → X → Bool) → List X → ℕ → List (Member × ℕ) → Type 0
AreMembers test xs n members = (name second c : ℕ) → member_in members name second c ≡ position (test name second c) (take n xs)

abbrev pub AreMethods : AppParts → ℕ → List (Member × ℕ) → Type 0
AreMethods app n members = AreMembers is_method app.methods n members

abbrev pub AreFields : AppParts → ℕ → List (Member × ℕ) → Type 0
AreFields app n members = AreMembers is_field app.fields n members

-- ---- all of it
pub record IsBuilt (app : AppParts) (graph : GraphParts) : Type 0 where
  pub kinds : AreKinds app graph.kinds
  pub above : graph.above ≡ map (above_of app) app.classes
  pub methods : AreMethods app (length app.methods) graph.methods
  pub fields : AreFields app (length app.fields) graph.fields
