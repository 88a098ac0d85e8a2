-- The index from types to classes, filled from the last class to the first.
use Rattle.std.proofs.Common.{◌≡◌, ◌≢◌, ℕ, ◌<◌, ◌≤◌, List, length, drop, get_or, sym, arith, [], Option, Some, None, IfSome, option_map, eqb, ◌∙◌, ap, subst}
use Rattle.std.proofs.lemmas.Bool.{eq-eqb, ne_eqb}
use Rattle.std.proofs.lemmas.Iterator.Adapters.{position_from-zero}
use Rattle.std.proofs.lemmas.List.Quantifiers.{position-Some}
use Rattle.std.proofs.lemmas.Option.{slice_get_within, get_or_from_slice_get}
use Rattle.std.specs.List.{position_from}
use Rattle.ns_base.specs.declared.rows.ClassNo.{ClassNo}
use Rattle.app_model.specs.Hierarchy.{class_of_type}
use Rattle.app_model.specs.Parts.{ClassParts}
use Rattle.app_model.specs.Index.{IsIndex}
use Rattle.app_model.proofs.Searches.{position_here, position_none}

-- the walk over the classes
pub class_here : (classes : List ClassParts) (t c : ℕ) (d : ClassParts) → c < length classes → ((k : ℕ) → k < c → (get_or classes k d).name.0 ≢ t) → (get_or classes c d).name.0 ≡ t → Some c ≡ class_of_type classes t
unfolding class_of_type
class_here classes t c d below before here =
    position_here (λ (class : ClassParts). eqb class.name.0 t) classes c d below (λ k less. ne_eqb (get_or classes k d).name.0 t (before k less)) (eq-eqb (get_or classes c d).name.0 t here)

pub class_none : (classes : List ClassParts) (t : ℕ) → ((k : ℕ) (d : ClassParts) → k < length classes → (get_or classes k d).name.0 ≢ t) → None ≡ class_of_type classes t
unfolding class_of_type
class_none classes t none = position_none (λ (class : ClassParts). eqb class.name.0 t) classes (λ (k : ℕ) (d : ClassParts) (below : k < length classes). ne_eqb (get_or classes k d).name.0 t (none k d below))

-- the class of a type is there
pub class_within : (classes : List ClassParts) (t : ℕ) (found : Option ClassNo) → option_map (λ (c : ClassNo). c.0) found ≡ class_of_type classes t
    → IfSome found (λ c. c.0 < length classes)
unfolding class_of_type
class_within classes t None is = tt
class_within classes t (Some c) is = (position-Some (λ (class : ClassParts). eqb class.name.0 t) classes c.0 (record { name = record { 0 = 0 }; parent = None; interfaces = []; flags = 0 }) (sym is)).0

-- the class of a type among those from class c on
abbrev pub class_from : ℕ → List ClassParts → ℕ → Option ℕ
class_from c classes t = position_from (λ (class : ClassParts). eqb class.name.0 t) c (drop c classes)

-- the classes from c on are there
pub record IsFilled (types : ℕ) (classes : List ClassParts) (c : ℕ) (index : List (Option ClassNo)) : Type 0 where
  pub len : length index ≡ types
  pub each : (t : ℕ) → t < types → option_map (λ (c : ClassNo). c.0) (get_or index t None) ≡ class_from c classes t

pub all_filled : (types : ℕ) (classes : List ClassParts) (c : ℕ) (index : List (Option ClassNo)) → c ≤ 0 → IsFilled types classes c index → IsIndex classes index
unfolding class_of_type
all_filled types classes c index none filled = let first : 0 ≡ c = omega arith in record {
  each = λ t found is.
      let below = slice_get_within index t found is in
      let here : option_map (λ (c : ClassNo). c.0) (get_or index t None) ≡ class_from 0 classes t =
      subst (λ n. option_map (λ (c : ClassNo). c.0) (get_or index t None) ≡ class_from n classes t) (sym first) (filled.each t (omega (arith, below, filled.len))) in
      ap (option_map (λ (c : ClassNo). c.0)) (sym (get_or_from_slice_get index t found None is)) ∙ here ∙ sym (position_from-zero (λ (class : ClassParts). eqb class.name.0 t) classes);
}
