-- A certificate.
use Rattle.std.specs.Prelude.{ℕ, List}
use Rattle.cert_line.specs.declared.rows.ViewRow.{ViewRow}
use Rattle.cert_line.specs.Parts.{BodyParts}

pub record LockRows : Type 0 where
  pub name : List ℕ
  pub views : List ViewRow
  pub bodies : List BodyParts

pub record CertParts : Type 0 where
  pub list : List ℕ
  pub dex : List (List ℕ)
  pub locks : List LockRows
