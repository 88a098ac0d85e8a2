-- Parts of a certificate that have the least solutions of a subject's lock fields, as they are written.
use Rattle.std.specs.Prelude.{ℕ, ◌≡◌, List, Some, length, slice_get}
use Rattle.app_model.specs.Subject.{SubjectParts}
use Rattle.certificate.specs.Parts.{LockRows}
use Rattle.certificate.specs.Solved.{part_of}
use Rattle.certificate.specs.Texts.{IsPart}
use Rattle.flow_model.specs.Derived.{IsLeast}
use Rattle.flow_model.specs.Policy.{none_given}
use Rattle.flow_model.specs.Rules.{Rules}
use Rattle.solution.specs.Facts.{Facts, HasPlaces, holds}

-- the rows of the least solution for lock field l, which have a text
pub record IsSolved (x : SubjectParts) (l : ℕ) (part : LockRows) : Type 0 where
  pub facts : Facts
  pub places : HasPlaces x facts
  pub least : IsLeast (Rules x l) none_given (holds facts)
  pub rows : part ≡ part_of x l (holds facts)
  pub text : IsPart part

-- one part for each of the first n lock fields
pub record AreSolved (x : SubjectParts) (n : ℕ) (parts : List LockRows) : Type 0 where
  pub len : length parts ≡ n
  pub each : (l : ℕ) (part : LockRows) → slice_get parts l ≡ Some part → IsSolved x l part
