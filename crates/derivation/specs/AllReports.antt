-- The reports of all violations: of one lock field, of the first ones, and of all of them in the order of reports.
use Rattle.std.specs.Prelude.{ℕ, ◌≡◌, ◌≢◌, ◌<◌, ◌↔◌, AllPairs, Contains, List, map, Some, slice_get}
use Rattle.std.specs.List.{All}
use Rattle.app_model.specs.Subject.{SubjectParts}
use Rattle.flow_model.specs.Derived.{Derived, HasAll, Set}
use Rattle.flow_model.specs.Policy.{AreViolations, IsDerivableViolation, IsViolation, none_given}
use Rattle.flow_model.specs.Rules.{Carries, Rules}
use Rattle.flow_model.specs.declared.policy.Violation.{Violation}
use Rattle.report_path.specs.declared.report.Report.{Report}
use Rattle.report_path.specs.declared.report.ViewStep.{ViewStep}
use Rattle.report_path.specs.Reports.{IsValidReport, violation_of}
use Rattle.fact_log.specs.declared.log.Line.{Line}
use Rattle.fact_log.specs.Logs.{HasFacts, IsLog}
use Rattle.view_solver.specs.Judged.{AreViolationsBy}

-- a violation whose facts are in a log
pub record IsLoggedViolation (t : SubjectParts) (lines : List Line) (views : List ViewStep) (bad : Violation) : Type 0 where
  pub log : IsLog t bad.lock lines views
  pub set : Set
  pub facts : HasFacts lines views set
  pub violation : IsViolation t (Carries t bad.lock) bad.lock (HasAll set) bad.component bad.callback bad.status

abbrev pub AreLogged : SubjectParts → List Line → List ViewStep → List Violation → Type 0
AreLogged t lines views found = (k : ℕ) (bad : Violation) → slice_get found k ≡ Some bad → IsLoggedViolation t lines views bad

-- valid reports of those violations, in their order
pub record AreReportsOf (t : SubjectParts) (found : List Violation) (reports : List Report) : Type 0 where
  pub names : map violation_of reports ≡ found
  pub valid : (k : ℕ) (r : Report) → slice_get reports k ≡ Some r → IsValidReport t r

-- a valid report of each derivable violation of lock field l, and no other
pub record AreReports (t : SubjectParts) (l : ℕ) (reports : List Report) : Type 0 where
  pub lock : (k : ℕ) (r : Report) → slice_get reports k ≡ Some r → r.lock ≡ l
  pub valid : (k : ℕ) (r : Report) → slice_get reports k ≡ Some r → IsValidReport t r
  pub names : AreViolationsBy t l (Derived (Rules t l) none_given) (map violation_of reports)

-- of the first n lock fields a valid report of each derivable violation, each once, and no other
pub record AreGathered (t : SubjectParts) (n : ℕ) (reports : List Report) : Type 0 where
  pub valid : All (IsValidReport t) reports
  pub once : AllPairs (λ v w. v ≢ w) (map violation_of reports)
  pub exact : (v : Violation) → Contains (map violation_of reports) v ↔ ((v.lock < n) × IsDerivableViolation t v.lock v.component v.callback v.status)

-- a valid report of each violation that the rules derive, in the order of reports, and no other
pub record AreAllReports (t : SubjectParts) (reports : List Report) : Type 0 where
  pub valid : All (IsValidReport t) reports
  pub names : AreViolations t (map violation_of reports)
