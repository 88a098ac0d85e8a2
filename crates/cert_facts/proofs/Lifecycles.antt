-- The edges of a lifecycle.
use Rattle.std.proofs.Common.{◌≡◌, ℕ, ◌<◌, length, Some}
use Rattle.std.specs.Prelude.{slice_get}
use Rattle.std.proofs.lemmas.Option.{slice_get_within}
use Rattle.app_model.specs.Components.{edges_of}
use Rattle.app_model.specs.declared.component.Edge.{Edge}
use Rattle.app_model.specs.declared.component.Kind.{Kind}

pub edge_within : (kind : Kind) (k : ℕ) (e : Edge) → slice_get (edges_of kind) k ≡ Some e → k < length (edges_of kind)
edge_within kind k e is = slice_get_within (edges_of kind) k e is
