-- A class hierarchy as contracts see it: rows of types and of classes, and what they answer.
use Rattle.std.specs.Prelude.{ℕ, zero, suc, ◌==◌, ◌&&◌, ◌||◌, Bool, false, List, [], ◌∷◌, length, Option, Some, None, option_map, is_none, slice_get}
use Rattle.std.specs.List.{list_any}
use Rattle.std.specs.Map.{lookup}
use Rattle.ns_base.specs.declared.rows.ClassNo.{ClassNo}
use Rattle.ns_base.specs.declared.rows.TypeNo.{TypeNo}
use Rattle.app_model.specs.Hierarchy.{is_superclass, is_type, nearest}
use Rattle.class_graph.specs.declared.members.Member.{Member}
use Rattle.class_graph.specs.declared.kinds.KindRow.{KindRow}

-- of a class: its superclass; its interfaces and all types above them; whether the files say nothing of one of these
pub record AboveParts : Type 0 where
  pub parent : Option TypeNo
  pub kinds : List TypeNo
  pub unknown : Bool

-- rows of types, and of classes; members with their numbers
pub record GraphParts : Type 0 where
  pub kinds : List KindRow
  pub above : List AboveParts
  pub methods : List (Member × ℕ)
  pub fields : List (Member × ℕ)

-- ---- the class of a type, and the classes above it
abbrev pub class_in : Option KindRow → Option ℕ
class_in None = None
class_in (Some kind) = option_map (λ (c : ClassNo). c.0) kind.class

abbrev pub class_by : List KindRow → ℕ → Option ℕ
class_by kinds t = class_in (slice_get kinds t)

abbrev pub class_of_parent_by : List KindRow → Option TypeNo → Option ℕ
class_of_parent_by kinds None = None
class_of_parent_by kinds (Some t) = class_by kinds t.0

abbrev pub superclass_in : List KindRow → Option AboveParts → Option ℕ
superclass_in kinds None = None
superclass_in kinds (Some above) = class_of_parent_by kinds above.parent

abbrev pub superclass_by : GraphParts → ℕ → Option ℕ
superclass_by graph c = superclass_in graph.kinds (slice_get graph.above c)

abbrev pub line_from : GraphParts → ℕ → Option ℕ → List ℕ
line_from graph zero c = []
line_from graph (suc n) None = []
line_from graph (suc n) (Some c) = c ∷ line_from graph n (superclass_by graph c)

abbrev pub line_by : GraphParts → Option ℕ → List ℕ
line_by graph c = line_from graph (length graph.above) c

-- ---- types above
abbrev pub stands_in : Option AboveParts → ℕ → Bool
stands_in None u = false
stands_in (Some above) u = is_superclass above.parent u || list_any (is_type u) above.kinds

abbrev pub stands_by : GraphParts → (u c : ℕ) → Bool
stands_by graph u c = stands_in (slice_get graph.above c) u

abbrev pub sub_by : GraphParts → (a b : ℕ) → Bool
sub_by graph a b = (a == b) || list_any (stands_by graph b) (line_by graph (class_by graph.kinds a))

abbrev pub is_unknown_kind : Option KindRow → Bool
is_unknown_kind None = false
is_unknown_kind (Some kind) = kind.unknown

abbrev pub leads_in : Option AboveParts → Bool
leads_in None = false
leads_in (Some above) = above.unknown

abbrev pub leads_by : GraphParts → ℕ → Bool
leads_by graph c = leads_in (slice_get graph.above c)

abbrev pub unknown_by : GraphParts → ℕ → Bool
unknown_by graph t = is_unknown_kind (slice_get graph.kinds t) || list_any (leads_by graph) (line_by graph (class_by graph.kinds t))

abbrev pub may_be_by : GraphParts → (t c : ℕ) → Bool
may_be_by graph t c = sub_by graph t c || (is_none (class_by graph.kinds c) && unknown_by graph t)

-- ---- members
abbrev pub same_member : Member → Member → Bool
same_member a b = a.class == b.class && (a.name == b.name && a.second == b.second)

abbrev pub member_of : (name second c : ℕ) → Member
member_of name second c = record { class = c; name = name; second = second }

-- the number of such a member of class c
abbrev pub member_in : List (Member × ℕ) → (name second c : ℕ) → Option ℕ
member_in members name second c = lookup (same_member (member_of name second c)) members

abbrev pub method_by : GraphParts → (c name proto : ℕ) → Option ℕ
method_by graph c name proto = nearest (member_in graph.methods name proto) (line_by graph (Some c))

abbrev pub field_by : GraphParts → (t name kind : ℕ) → Option ℕ
field_by graph t name kind = nearest (member_in graph.fields name kind) (line_by graph (class_by graph.kinds t))
