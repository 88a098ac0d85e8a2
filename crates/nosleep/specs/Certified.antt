-- The certificate of a subject: the facts of its least solutions, with the digests of its files.
use Rattle.std.specs.Prelude.{ℕ, ◌≡◌, List, Some, length, slice_get}
use Rattle.app_model.specs.Subject.{SubjectParts, slot_count}
use Rattle.certificate.specs.Parts.{CertParts, LockRows}
use Rattle.certificate.specs.Solved.{part_of}
use Rattle.flow_model.specs.Derived.{IsLeast, Set}
use Rattle.flow_model.specs.Policy.{none_given}
use Rattle.flow_model.specs.Rules.{Rules}

-- the rows of the least solution for a lock field
pub record HasPart (x : SubjectParts) (l : ℕ) (part : LockRows) : Type 0 where
  pub set : Set
  pub least : IsLeast (Rules x l) none_given set
  pub rows : part ≡ part_of x l set

-- of the first n lock fields
pub record AreParts (x : SubjectParts) (n : ℕ) (parts : List LockRows) : Type 0 where
  pub len : length parts ≡ n
  pub each : (l : ℕ) (part : LockRows) → slice_get parts l ≡ Some part → HasPart x l part

pub record IsCertificateOf (x : SubjectParts) (list : List ℕ) (dex : List (List ℕ)) (cert : CertParts) : Type 0 where
  pub list_digest : cert.list ≡ list
  pub dex_digests : cert.dex ≡ dex
  pub parts : AreParts x (slot_count x) cert.locks
