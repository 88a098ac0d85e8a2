-- Look-ups in the classes that tell what a receiver's classes find.
use Rattle.std.specs.Prelude.{ℕ, ◌≡◌, ◌<◌, ◌⊎◌, take, if◌then◌else◌, List, [], ◌∷◌, ◌++◌, length, map, Option, Some, None, is_none, slice_get, IfSome, Contains}
use Rattle.std.specs.List.{All, filter}
use Rattle.ns_base.specs.declared.rows.ClassNo.{ClassNo}
use Rattle.ns_base.specs.declared.rows.TypeNo.{TypeNo}
use Rattle.app_model.specs.Hierarchy.{class_of_type, lookup_of, method_in, superclass_at}
use Rattle.app_model.specs.Parts.{AppParts, ClassParts}
use Rattle.class_graph.specs.Answers.{found_number}
use Rattle.class_graph.specs.declared.graph.Found.{Found}
use Rattle.call_targets.specs.Below.{AreChildren, BelowParts, IsBelow, IsReady, class_no, is_met_class}
use Rattle.call_targets.specs.Signatures.{classes_in}
use Rattle.call_targets.specs.Sources.{IndexParts, IsIndex}

-- what a look-up finds in a class given by number
abbrev pub look_in : AppParts → (name proto : ℕ) → Option ClassParts → Option ℕ
look_in app name proto None = None
look_in app name proto (Some class) = lookup_of app class.name.0 name proto

abbrev pub look_at : AppParts → (name proto : ℕ) → ClassNo → Option ℕ
look_at app name proto c = look_in app name proto (slice_get app.classes c.0)

-- the outside, where the type is none of the application's
abbrev pub begins_at : Option ℕ → List (Option ℕ)
begins_at o = if is_none o then None ∷ [] else []

abbrev pub begins : AppParts → (kind : ℕ) → List (Option ℕ)
begins app kind = begins_at (class_of_type app.classes kind)

-- a look-up in one of these ends outside
pub record EndsOutside (app : AppParts) (name proto : ℕ) (cs : List ClassNo) : Type 0 where
  pub class : ClassNo
  pub there : Contains cs class
  pub finds : look_at app name proto class ≡ None

-- the candidates: classes that may be of the type, among them those that declare the method and the roots. Of the tops whose look-up
-- ends outside one will do, and none where the type is outside itself
pub record AreCandidates (app : AppParts) (kind name proto : ℕ) (cs : List ClassNo) : Type 0 where
  pub each : (d : ClassNo) → Contains cs d → IsBelow app kind d.0
  pub declared : (c n : ℕ) → IsBelow app kind c → method_in app name proto c ≡ Some n → Contains cs (class_no c)
  pub roots : (c d : ℕ) → IsBelow app kind c → superclass_at app.classes c ≡ Some d → (IsBelow app kind d → ⊥) → Contains cs (class_no c)
  pub tops : (c : ℕ) → IsBelow app kind c → superclass_at app.classes c ≡ None → look_at app name proto (class_no c) ≡ None → (class_of_type app.classes kind ≡ None) ⊎ EndsOutside app name proto cs

-- the look-ups in the first n tops say what those in all of them say of the outside
abbrev pub AreEnough : AppParts → (name proto : ℕ) → List ClassNo → (n : ℕ) → Type 0
AreEnough app name proto tops n = (n ≡ length tops) ⊎ EndsOutside app name proto (take n tops)

-- look-ups that found this, methods of the application
pub record AreFound (app : AppParts) (numbers : List (Option ℕ)) (found : List Found) : Type 0 where
  pub is : map found_number found ≡ numbers
  pub each : All (λ (f : Found). IfSome (found_number f) (λ m. m < length app.methods)) found

-- ---- what look-ups go by
pub record MakerParts : Type 0 where
  pub index : IndexParts
  pub children : List (List TypeNo)
  pub kind : Option TypeNo
  pub below : BelowParts

pub record IsMaker (app : AppParts) (maker : MakerParts) : Type 0 where
  pub index : IsIndex app maker.index
  pub children : AreChildren app.classes (length app.types) maker.children
  pub types : maker.below.walk.types ≡ length app.types
  pub below : (t : TypeNo) → maker.kind ≡ Some t → IsReady app t.0 maker.below

pub record IsAsked (app : AppParts) (kind : ℕ) (asked : MakerParts) : Type 0 where
  pub maker : IsMaker app asked
  pub below : IsReady app kind asked.below

-- the roots, and those that declare the method and were met
abbrev pub tried_of : AppParts → MakerParts → (name proto : ℕ) → List ClassNo
tried_of app maker name proto =
    maker.below.roots ++ (if maker.below.few then [] else filter (is_met_class app maker.below.walk.kinds) (classes_in maker.index.declared name proto))
