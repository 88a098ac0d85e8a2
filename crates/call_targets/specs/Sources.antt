-- What decides what a call can call. Calls of one source can call the same.
use Rattle.std.specs.Prelude.{ℕ, ◌≡◌, ◌<◌, List, [], ◌∷◌, length, true, Option, Some, None, IfSome}
use Rattle.std.specs.declared.alloc.Global.{Global}
use Rattle.std.specs.declared.vec.Vec.{Vec}
use Rattle.ns_base.specs.declared.rows.ClassNo.{ClassNo}
use Rattle.ns_base.specs.declared.rows.TypeNo.{TypeNo}
use Rattle.app_model.specs.declared.rows.Named.{Named}
use Rattle.app_model.specs.CallGraph.{TargetParts}
use Rattle.app_model.specs.Hierarchy.{is_unknown, lookup_of}
use Rattle.app_model.specs.Parts.{AppParts}
use Rattle.app_model.specs.Targets.{CallKey, found_virtually, row_of}
use Rattle.call_targets.specs.Signatures.{AreDeclared}
use Rattle.call_targets.specs.declared.declared.Signature.{Signature}
use Rattle.call_targets.specs.declared.sources.Key.{Key}
use Rattle.call_targets.specs.declared.sources.Source.{Source}

abbrev pub named_parts : (class name proto : ℕ) → Named
named_parts class name proto = record { class = record { 0 = class }; name = record { 0 = name }; proto = record { 0 = proto } }

-- what is found
abbrev pub found_by : AppParts → (one below : Option ℕ) → (name proto : ℕ) → List (Option ℕ)
found_by app None None name proto = None ∷ []
found_by app None (Some kind) name proto = found_virtually app 0 (named_parts kind name proto)
found_by app (Some class) below name proto = lookup_of app class name proto ∷ []

abbrev pub found_from : AppParts → Source → List (Option ℕ)
found_from app source = found_by app source.one source.below source.name source.proto

unfoldable pub row_from : AppParts → Source → TargetParts
row_from app source = row_of (length app.methods) (found_from app source)

abbrev pub key_parts : CallKey → Key
key_parts key = record { kind = key.kind; caller = key.caller; class = key.named.class.0; name = key.named.name.0; proto = key.named.proto.0 }

-- ---- what is known of an application's names
pub record IndexParts : Type 0 where
  pub declared : List (Signature × Vec ClassNo Global)
  pub unknown : Option TypeNo

pub record IsUnknownOne (app : AppParts) (t : TypeNo) : Type 0 where
  pub there : t.0 < length app.types
  pub is : is_unknown app t.0 ≡ true

pub record IsIndex (app : AppParts) (index : IndexParts) : Type 0 where
  pub declared : AreDeclared app (length app.methods) index.declared
  pub unknown : IfSome index.unknown (IsUnknownOne app)
