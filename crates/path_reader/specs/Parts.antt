-- A report, with lists for what it owns, and what is known of reports in the middle of a text.
use Rattle.std.specs.Prelude.{ℕ, Bool, List, Option}
use Rattle.report_path.specs.declared.report.Step.{Step}
use Rattle.report_path.specs.declared.report.ViewStep.{ViewStep}

pub record BodyParts : Type 0 where
  pub method : ℕ
  pub entry : ℕ
  pub thrown : Bool
  pub exit : ℕ
  pub steps : List Step

pub record ReportParts : Type 0 where
  pub component : ℕ
  pub callback : ℕ
  pub lock : ℕ
  pub status : ℕ
  pub bodies : List BodyParts
  pub views : List ViewStep
  pub view : ℕ
  pub edge : ℕ
  pub body : Option ℕ

-- a body by its number
pub record BodyNo : Type 0 where
  pub number : ℕ
  pub body : BodyParts

-- Reports that are done, out of how many (0 before the first head), and the bodies and views of the one that has begun.
pub record State : Type 0 where
  pub done : List ReportParts
  pub total : ℕ
  pub inside : Bool
  pub bodies : List BodyParts
  pub views : List ViewStep
