-- What is checked: a lock field of a subject by its part of a certificate, down to one instruction of it.
use Rattle.std.specs.Prelude.{ℕ, ◌≡◌, ◌<◌, true, length}
use Rattle.app_model.specs.Subject.{SubjectParts, IsSubject, is_reached}
use Rattle.app_model.specs.Words.{code_len}
use Rattle.certificate.specs.Parts.{LockRows}
use Rattle.flow_model.specs.Derived.{Set}
use Rattle.cert_facts.specs.Sets.{facts_of}
use Rattle.cert_facts.specs.Shape.{FitsLock}

pub record Case : Type 0 where
  pub subject : SubjectParts
  pub lock : ℕ
  pub part : LockRows

abbrev pub set_of : Case → Set
set_of t = facts_of t.part

pub record IsCase (t : Case) : Type 0 where
  pub sound : IsSubject t.subject
  pub fits : FitsLock t.subject t.lock t.part

-- a method that was entered at a status
pub record Entry : Type 0 where
  pub case : Case
  pub method : ℕ
  pub status : ℕ

pub record IsEntry (t : Entry) : Type 0 where
  pub case : IsCase t.case
  pub method : t.method < length t.case.subject.app.methods
  pub reached : is_reached t.case.subject t.method ≡ true
  pub status : t.status < 8

-- an instruction of it
pub record Spot : Type 0 where
  pub entry : Entry
  pub index : ℕ

pub record IsSpot (t : Spot) : Type 0 where
  pub entry : IsEntry t.entry
  pub index : t.index < code_len t.entry.case.subject.app t.entry.method
