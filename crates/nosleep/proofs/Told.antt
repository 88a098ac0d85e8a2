-- From the violations of a subject to the answers.
use Rattle.std.proofs.Common.{◌≡◌, ◌≢◌, ℕ, ◌≤◌, ◌<◌, List, [], length, map, Ok, refl, sym, subst, arith}
use Rattle.ns_base.specs.Answers.{limit_of}
use Rattle.ns_base.specs.declared.answers.Counted.TheVariants.{CertBytes}
use Rattle.ns_base.specs.declared.answers.Exit.{Exit}
use Rattle.app_model.specs.Components.{ComponentParts}
use Rattle.app_model.specs.Parts.{AppParts}
use Rattle.app_model.specs.Subject.{SubjectParts, slot_count}
use Rattle.cert_check.specs.Verdict.{IsVerdict}
use Rattle.cert_check.specs.declared.verdict.Checked.TheVariants.{Valid}
use Rattle.certificate.specs.Parts.{CertParts}
use Rattle.certificate.specs.Texts.{IsCert, certificate_text}
use Rattle.derivation.specs.AllReports.{AreAllReports}
use Rattle.flow_model.specs.declared.policy.Violation.{Violation}
use Rattle.flow_model.specs.Derived.{IsClosed, Set}
use Rattle.flow_model.specs.Policy.{AreViolations, MeetsPolicy, none_given}
use Rattle.flow_model.specs.Rules.{Rules}
use Rattle.report_path.specs.declared.report.Report.{Report}
use Rattle.report_path.specs.Reports.{violation_of}
use Rattle.run_model.specs.Machine.{run_of}
use Rattle.run_model.specs.Soundness.{LeavesNoneHeld, StandsWell}
use Rattle.sha1.specs.Sha1.{sha1}
use Rattle.view_solver.specs.Reported.{HasLeast}
use Rattle.view_solver.proofs.Closed.{least_closed}
use Rattle.view_solver.proofs.Judged.{derived_violation}
use Rattle.one_scope.specs.Alike.{AreAlike}
use Rattle.nosleep.specs.Certified.{IsCertificateOf}
use Rattle.nosleep.specs.Certifying.{AreShown, IsWritten, short, long}
use Rattle.nosleep.specs.Events.{AreHelds}
use Rattle.nosleep.specs.Judged.{IsAccepted, IsChecked, IsReceived, IsSafe, IsVerified, accepts, certified, overlong}
use Rattle.nosleep.specs.Outcome.{IsReport, IsTold, none, some}

told_of : (x y : SubjectParts) (violations : List Violation) (text : List ℕ) (exit : Exit) → AreAlike x y → IsTold x.app x.list violations text exit → IsTold y.app y.list violations text exit
told_of x y violations text exit alike t =
    subst (λ (app : AppParts). IsTold app y.list violations text exit) alike.app (subst (λ (list : List ComponentParts). IsTold x.app list violations text exit) alike.list t)

-- ---- receiver
told_by : (x : SubjectParts) (violations : List Violation) (text : List ℕ) (exit : Exit) → AreViolations x violations → (violations ≡ [] → IsSafe x) → IsTold x.app x.list violations text exit → IsReceived x text exit
told_by x violations text exit are safe (none empty t e) = accepts t (subst (λ (vs : List Violation). AreViolations x vs) empty are, safe empty) e
told_by x violations text exit are safe (some more r) = IsReceived.reports (violations, are, more, r.1) r.0

-- so of each subject that is alike
pub told_answer : (x : SubjectParts) (violations : List Violation) (text : List ℕ) (exit : Exit) → ((y : SubjectParts) → AreAlike x y → AreViolations y violations × (violations ≡ [] → IsSafe y))
    → IsTold x.app x.list violations text exit → (y : SubjectParts) → AreAlike x y → IsReceived y text exit
told_answer x violations text exit each t y alike = told_by y violations text exit (each y alike).0 (each y alike).1 (told_of x y violations text exit alike t)

pub told_helds : (x : SubjectParts) (violations : List Violation) (text : List ℕ) (exit : Exit) → ((y : SubjectParts) → AreAlike x y → AreViolations y violations)
    → IsTold x.app x.list violations text exit → AreHelds (Ok x) exit violations
told_helds x violations text exit each (none empty t e) = (λ y alike here. each y alike, λ no. empty)
told_helds x violations text exit each (some more r) = (λ y alike here. each y alike, λ no. absurd (no r.0))

-- no derived violation: the least solution of each lock field meets the policy, so that every run is safe
pub all_safe : (x : SubjectParts) (violations : List Violation) → AreViolations x violations → ((l : ℕ) → l < slot_count x → HasLeast x l)
    → ((l : ℕ) (set : Set) → l < slot_count x → IsClosed (Rules x l) set → MeetsPolicy x l set → (choices : List ℕ) → StandsWell x l (run_of x choices))
    → ((l : ℕ) (set : Set) → l < slot_count x → IsClosed (Rules x l) set → MeetsPolicy x l set → (choices : List ℕ) → LeavesNoneHeld x l (run_of x choices)) → violations ≡ [] → IsSafe x
all_safe x violations are least stands leaves empty l below choices =
    let set = (least l below).0 in
    let is = (least l below).1 in
    let closed = least_closed (Rules x l) none_given set is in
    let nothing : AreViolations x [] = subst (λ (vs : List Violation). AreViolations x vs) empty are in
    let meets : MeetsPolicy x l set = λ c k s v. (let found = (nothing.exact (record { component = c; callback = k; lock = l; status = s })).1 (derived_violation x l set c k s is v) in omega (arith, found.1)) in
    (stands l set below closed meets choices, leaves l set below closed meets choices)

-- ---- verify
shown_over : (x y : SubjectParts) (reports : List Report) (text : List ℕ) (exit : Exit) → AreAlike x y → AreShown x.app x.list reports text exit → AreShown y.app y.list reports text exit
shown_over x y reports text exit alike t =
    subst (λ (app : AppParts). AreShown app y.list reports text exit) alike.app (subst (λ (list : List ComponentParts). AreShown x.app list reports text exit) alike.list t)

pub report_answer : (list : List ℕ) (dex : List (List ℕ)) (x : SubjectParts) (reports : List Report) (text : List ℕ) (exit : Exit) → ((y : SubjectParts) → AreAlike x y → AreAllReports y reports) → reports ≢ []
    → AreShown x.app x.list reports text exit → (y : SubjectParts) → AreAlike x y → IsVerified list dex y text exit
report_answer list dex x reports text exit each more t y alike =
    let r = shown_over x y reports text exit alike t in
    IsVerified.reports (reports, each y alike, more, r.1) r.0

pub report_helds : (x : SubjectParts) (reports : List Report) (found : List Violation) (text : List ℕ) (exit : Exit) → found ≡ map violation_of reports → ((y : SubjectParts) → AreAlike x y → AreAllReports y reports)
    → AreShown x.app x.list reports text exit → AreHelds (Ok x) exit found
report_helds x reports found text exit same each r = (λ y alike here. subst (λ (vs : List Violation). AreViolations y vs) (sym same) (each y alike).names, λ no. absurd (no r.0))

-- a certificate that is short enough is one that check accepts
written_by : (list : List ℕ) (dex : List (List ℕ)) (y : SubjectParts) (cert : CertParts) (text : List ℕ) (exit : Exit) → IsCertificateOf y (sha1 list) (map sha1 dex) cert → IsCert cert → IsAccepted y
    → (length (certificate_text cert) ≤ limit_of CertBytes → IsVerdict y (sha1 list) (map sha1 dex) cert Valid) → IsWritten cert text exit → IsVerified list dex y text exit
written_by list dex y cert text exit solved is accepted valid (short t few e) =
    certified (record {
      cert = cert;
      solved = solved;
      spells = t;
      short = few;
      accepted = accepted;
      checks = IsChecked.read cert is t (record { checked = Valid; verdict = valid (subst (λ (bs : List ℕ). length bs ≤ limit_of CertBytes) t few); says = refl; ends = refl; safe = λ v. accepted.1 });
    }) e
written_by list dex y cert text exit solved is accepted valid (long many t e) = overlong (record { cert = cert; solved = solved; long = many; accepted = accepted; says = t }) e

pub written_answer : (list : List ℕ) (dex : List (List ℕ)) (x : SubjectParts) (cert : CertParts) (text : List ℕ) (exit : Exit) → IsCert cert
    → ((y : SubjectParts) → AreAlike x y → IsCertificateOf y (sha1 list) (map sha1 dex) cert × IsAccepted y × (length (certificate_text cert) ≤ limit_of CertBytes → IsVerdict y (sha1 list) (map sha1 dex) cert Valid))
    → IsWritten cert text exit → (y : SubjectParts) → AreAlike x y → IsVerified list dex y text exit
written_answer list dex x cert text exit is each w y alike = let of = each y alike in written_by list dex y cert text exit of.0 is of.1 of.2 w

pub written_helds : (x : SubjectParts) (violations : List Violation) (exit : Exit) → violations ≡ [] → ((y : SubjectParts) → AreAlike x y → AreViolations y violations) → AreHelds (Ok x) exit violations
written_helds x violations exit empty each = (λ y alike here. each y alike, λ no. empty)
