-- The index that an application may keep: from each type that it has to its class.
use Rattle.std.specs.Prelude.{ℕ, ◌≡◌, List, Option, Some, None, option_map, slice_get}
use Rattle.std.specs.declared.alloc.Global.{Global}
use Rattle.std.specs.declared.vec.Vec.{Vec}
use Rattle.ns_base.specs.declared.rows.ClassNo.{ClassNo}
use Rattle.app_model.specs.Hierarchy.{class_of_type}
use Rattle.app_model.specs.Parts.{ClassParts}

pub record IsIndex (classes : List ClassParts) (index : List (Option ClassNo)) : Type 0 where
  pub each : (t : ℕ) (found : Option ClassNo) → slice_get index t ≡ Some found → option_map (λ (c : ClassNo). c.0) found ≡ class_of_type classes t

abbrev pub KeepsIndex : List ClassParts → Option (Vec (Option ClassNo) Global) → Type 0
KeepsIndex classes None = Unit {0}
KeepsIndex classes (Some index) = IsIndex classes index.items
