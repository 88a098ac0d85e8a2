-- What the lines of a certificate tell.
use Rattle.std.specs.Prelude.{ℕ, List}

pub record BodyParts : Type 0 where
  pub method : ℕ
  pub entry : ℕ
  pub ret : ℕ
  pub exc : ℕ
  -- a mask for each instruction
  pub masks : List ℕ

pub record NameParts : Type 0 where
  pub number : ℕ
  pub shown : List ℕ
