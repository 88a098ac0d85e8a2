-- A rule that leads out of a set of facts.
use Rattle.std.proofs.Common.{inl, inr}
use Rattle.std.specs.Prelude.{ℕ, ◌≡◌, false, List}
use Rattle.app_model.specs.Facts.{Fact}
use Rattle.app_model.specs.Subject.{SubjectParts}
use Rattle.flow_model.specs.Derived.{Set, HasAll}
use Rattle.flow_model.specs.Places.{Place, inside_place, start_place, between_place}
use Rattle.flow_model.specs.Rules.{Carries, Rules}
use Rattle.flow_model.specs.Subject.{status_masks}

-- where an instance of a rule stands
abbrev pub place_of : (x : SubjectParts) (l : ℕ) {needs : List Fact} {f : Fact} → Rules x l needs f → Place
place_of x l (inl (inl rule)) = inside_place x l (status_masks x l) rule
place_of x l (inl (inr rule)) = start_place x l rule
place_of x l (inr rule) = between_place x (Carries x l) rule

-- an instance there needs facts of the set, and leads to one that the set lacks
pub record LeadsOut (x : SubjectParts) (l : ℕ) (set : Set) (place : Place) : Type 0 where
  pub needs : List Fact
  pub fact : Fact
  pub rule : Rules x l needs fact
  pub there : place_of x l rule ≡ place
  pub has : HasAll set needs
  pub lacks : set fact ≡ false
