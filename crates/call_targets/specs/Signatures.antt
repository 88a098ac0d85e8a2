-- Which classes declare a method of a name and prototype.
use Rattle.std.specs.Prelude.{ℕ, ◌≡◌, ◌<◌, ◌==◌, ◌&&◌, Bool, false, List, [], Option, Some, option_map, slice_get, Contains}
use Rattle.std.specs.Map.{lookup}
use Rattle.std.specs.Option.{unwrap_or}
use Rattle.std.specs.declared.alloc.Global.{Global}
use Rattle.std.specs.declared.vec.Vec.{Vec}
use Rattle.ns_base.specs.declared.rows.ClassNo.{ClassNo}
use Rattle.app_model.specs.declared.rows.MethodRow.{MethodRow}
use Rattle.app_model.specs.Hierarchy.{is_abstract}
use Rattle.app_model.specs.Parts.{AppParts}
use Rattle.call_targets.specs.declared.declared.Signature.{Signature}

abbrev pub same_signature : Signature → Signature → Bool
same_signature a b = a.name == b.name && a.proto == b.proto

abbrev pub classes_with : List (Signature × Vec ClassNo Global) → (name proto : ℕ) → Option (List ClassNo)
classes_with lists name proto = option_map (λ (v : Vec ClassNo Global). v.items) (lookup (same_signature (record { name = name; proto = proto })) lists)

abbrev pub classes_in : List (Signature × Vec ClassNo Global) → (name proto : ℕ) → List ClassNo
classes_in lists name proto = unwrap_or (classes_with lists name proto) []

-- the class of each of the first n methods that is not abstract stands under its name and prototype
pub record IsListed (lists : List (Signature × Vec ClassNo Global)) (method : MethodRow) : Type 0 where
  pub list : List ClassNo
  pub is : classes_with lists method.name.0 method.proto.0 ≡ Some list
  pub has : Contains list method.class

abbrev pub AreDeclared : AppParts → (n : ℕ) → List (Signature × Vec ClassNo Global) → Type 0
AreDeclared app n lists = (m : ℕ) (method : MethodRow) → m < n → slice_get app.methods m ≡ Some method → is_abstract method.flags ≡ false → IsListed lists method
