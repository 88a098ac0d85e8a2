-- When a class hierarchy is that of an application.
use Rattle.std.specs.Prelude.{ℕ, ◌≡◌, Some, slice_get}
use Rattle.app_model.specs.Hierarchy.{is_sub, lookup_of, may_be_sub, resolve_field_of}
use Rattle.app_model.specs.Parts.{AppParts, ClassParts}
use Rattle.class_graph.specs.Graph.{GraphParts, field_by, may_be_by, method_by, sub_by}

-- it answers as the application's files say
pub record IsClassGraph (app : AppParts) (graph : GraphParts) : Type 0 where
  pub subtypes : (a b : ℕ) → sub_by graph a b ≡ is_sub app a b
  pub maybe : (t c : ℕ) → may_be_by graph t c ≡ may_be_sub app (Some t) c
  pub methods : (c : ℕ) (class : ClassParts) (name proto : ℕ) → slice_get app.classes c ≡ Some class → method_by graph c name proto ≡ lookup_of app class.name.0 name proto
  pub fields : (t name kind : ℕ) → field_by graph t name kind ≡ resolve_field_of app t name kind
