-- What the steps of writing a certificate give.
use Rattle.std.specs.Prelude.{ℕ, ◌≡◌, ◌<◌, ◌≤◌, List, length}
use Rattle.ns_base.specs.Answers.{limit_of}
use Rattle.ns_base.specs.declared.answers.Counted.TheVariants.{CertBytes}
use Rattle.ns_base.specs.declared.answers.Exit.{Exit}
use Rattle.ns_base.specs.declared.answers.Exit.TheVariants as exits
use Rattle.app_model.specs.Components.{ComponentParts}
use Rattle.app_model.specs.Parts.{AppParts}
use Rattle.app_model.specs.Subject.{SubjectParts}
use Rattle.cert_laws.specs.Solved.{AreSolved}
use Rattle.certificate.specs.Parts.{CertParts}
use Rattle.certificate.specs.Texts.{certificate_text}
use Rattle.derivation.specs.AllReports.{AreGathered}
use Rattle.report_path.specs.declared.report.Report.{Report}
use Rattle.report_text.specs.Limits.{over_limit_text}
use Rattle.report_text.specs.Reports.{reports_text}
use Rattle.nosleep.specs.declared.certifying.Solved.{Solved}

-- of the first n lock fields
pub record IsSolvedTo (x : SubjectParts) (n : ℕ) (solved : Solved) : Type 0 where
  pub parts : AreSolved x n solved.parts.items
  pub reports : AreGathered x n solved.reports.items

-- the answer to some violations: their reports
abbrev pub AreShown : AppParts → List ComponentParts → List Report → List ℕ → Exit → Type 0
AreShown app list reports text exit = (exit ≡ exits.Reports) × (text ≡ reports_text app list reports)

-- the text, or that it is too long
pub data IsWritten (cert : CertParts) (text : List ℕ) (exit : Exit) : Type 0 where
  short : text ≡ certificate_text cert → length text ≤ limit_of CertBytes → exit ≡ exits.Accept → IsWritten cert text exit
  long : limit_of CertBytes < length (certificate_text cert) → text ≡ over_limit_text CertBytes → exit ≡ exits.Limit → IsWritten cert text exit
