-- What is answered to a subject in scope, by each form of the command line.
use Rattle.std.specs.Prelude.{ℕ, ◌≡◌, ◌≢◌, ◌<◌, ◌≤◌, List, [], ◌∷◌, length, map}
use Rattle.ns_base.specs.Answers.{limit_of}
use Rattle.ns_base.specs.declared.answers.Counted.TheVariants.{CertBytes}
use Rattle.ns_base.specs.declared.answers.Exit.{Exit}
use Rattle.ns_base.specs.declared.answers.Exit.TheVariants as exits
use Rattle.app_model.specs.Subject.{SubjectParts, slot_count}
use Rattle.cert_check.specs.Verdict.{IsVerdict}
use Rattle.cert_check.specs.declared.verdict.Checked.{Checked}
use Rattle.cert_check.specs.declared.verdict.Checked.TheVariants.{Valid}
use Rattle.certificate.specs.Parts.{CertParts}
use Rattle.certificate.specs.Texts.{IsCert, certificate_text}
use Rattle.certificate.specs.Wrong.{HasFirstWrong}
use Rattle.derivation.specs.AllReports.{AreAllReports}
use Rattle.flow_model.specs.declared.policy.Violation.{Violation}
use Rattle.flow_model.specs.Policy.{AreViolations}
use Rattle.report_path.specs.declared.report.Report.{Report}
use Rattle.report_text.specs.Heads.{heads_text}
use Rattle.report_text.specs.Limits.{over_limit_text}
use Rattle.report_text.specs.Reports.{reports_text}
use Rattle.report_text.specs.Texts.{accept_text}
use Rattle.report_text.specs.Verdicts.{bad_certificate_text, checked_text, valid_text}
use Rattle.run_model.specs.Machine.{run_of}
use Rattle.run_model.specs.Soundness.{LeavesNoneHeld, StandsWell}
use Rattle.sha1.specs.Sha1.{sha1}
use Rattle.nosleep.specs.Certified.{IsCertificateOf}
use Rattle.nosleep.specs.Words.{Form, Receiver, Verify, Check}

-- no run of the machine stands at an exit with a lock held for which the component answers, and none ends with a lock that
-- went where it is not followed
abbrev pub IsSafe : SubjectParts → Type 0
IsSafe x = (l : ℕ) → l < slot_count x → (choices : List ℕ) → StandsWell x l (run_of x choices) × LeavesNoneHeld x l (run_of x choices)

-- the rules derive some violations, and these are their reports: of each one that is valid, in order, and no other
abbrev pub HasReports : List ℕ → SubjectParts → Type 0
HasReports text x = (reports : List Report) × AreAllReports x reports × (reports ≢ []) × (text ≡ reports_text x.app x.list reports)

-- the rules derive some violations, and these are their heads
abbrev pub HasHeads : List ℕ → SubjectParts → Type 0
HasHeads text x = (violations : List Violation) × AreViolations x violations × (violations ≢ []) × (text ≡ heads_text x.app x.list violations)

-- the rules derive no violation, and no run of the machine leaves a lock held
abbrev pub IsAccepted : SubjectParts → Type 0
IsAccepted x = AreViolations x [] × IsSafe x

-- ---- receiver
pub data IsReceived (x : SubjectParts) (text : List ℕ) (exit : Exit) : Type 0 where
  reports : HasHeads text x → exit ≡ exits.Reports → IsReceived x text exit
  accepts : text ≡ accept_text → IsAccepted x → exit ≡ exits.Accept → IsReceived x text exit

-- ---- check: the bytes of a certificate, a list and DEX files
abbrev pub exit_of : Checked → Exit
exit_of Valid = exits.Accept
exit_of checked = exits.Broken

-- the verdict, where the bytes are those of this certificate; a subject with a valid one is safe
pub record IsVerdictOn (cert : CertParts) (list : List ℕ) (dex : List (List ℕ)) (x : SubjectParts) (text : List ℕ) (exit : Exit) : Type 0 where
  pub checked : Checked
  pub verdict : IsVerdict x (sha1 list) (map sha1 dex) cert checked
  pub says : text ≡ checked_text x.app x.list checked
  pub ends : exit ≡ exit_of checked
  pub safe : checked ≡ Valid → IsSafe x

-- the first wrong line, or the verdict
pub data IsChecked (cert list : List ℕ) (dex : List (List ℕ)) (x : SubjectParts) (text : List ℕ) (exit : Exit) : Type 0 where
  unread : (n : ℕ) → HasFirstWrong n cert → text ≡ bad_certificate_text n → exit ≡ exits.Bad → IsChecked cert list dex x text exit
  read : (c : CertParts) → IsCert c → cert ≡ certificate_text c → IsVerdictOn c list dex x text exit → IsChecked cert list dex x text exit

-- ---- verify: the certificate of the least solutions, which check accepts
pub record IsCertified (list : List ℕ) (dex : List (List ℕ)) (x : SubjectParts) (text : List ℕ) : Type 0 where
  pub cert : CertParts
  pub solved : IsCertificateOf x (sha1 list) (map sha1 dex) cert
  pub spells : text ≡ certificate_text cert
  pub short : length text ≤ limit_of CertBytes
  pub accepted : IsAccepted x
  pub checks : IsChecked text list dex x valid_text exits.Accept

-- no violation, but a certificate that is too long
pub record IsOverlong (list : List ℕ) (dex : List (List ℕ)) (x : SubjectParts) (text : List ℕ) : Type 0 where
  pub cert : CertParts
  pub solved : IsCertificateOf x (sha1 list) (map sha1 dex) cert
  pub long : limit_of CertBytes < length (certificate_text cert)
  pub accepted : IsAccepted x
  pub says : text ≡ over_limit_text CertBytes

pub data IsVerified (list : List ℕ) (dex : List (List ℕ)) (x : SubjectParts) (text : List ℕ) (exit : Exit) : Type 0 where
  reports : HasReports text x → exit ≡ exits.Reports → IsVerified list dex x text exit
  certified : IsCertified list dex x text → exit ≡ exits.Accept → IsVerified list dex x text exit
  overlong : IsOverlong list dex x text → exit ≡ exits.Limit → IsVerified list dex x text exit

-- ---- by form, over the bytes of its files
abbrev pub IsJudgement : Form → List (List ℕ) → SubjectParts → List ℕ → Exit → Type 0
IsJudgement (Receiver dex class) files x text exit = IsReceived x text exit
IsJudgement (Verify list dex) (bytes ∷ files) x text exit = IsVerified bytes files x text exit
IsJudgement (Check cert list dex) (one ∷ bytes ∷ files) x text exit = IsChecked one bytes files x text exit
IsJudgement form files x text exit = ⊥
