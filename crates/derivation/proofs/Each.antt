-- Reports of violations, one after the other.
use Rattle.std.proofs.Common.{suc, zero, ◌≡◌, ℕ, ◌+◌, List, [], ◌∷◌, ◌++◌, map, take, Some, refl, sym, ap, ◌∙◌, arith, subst, ⊎_elim}
use Rattle.std.specs.Prelude.{slice_get, Contains}
use Rattle.std.proofs.lemmas.Option.{get_or_from_slice_get, slice_get_within}
use Rattle.std.proofs.lemmas.List.Elements.{Contains-get_or}
use Rattle.app_model.specs.Subject.{SubjectParts}
use Rattle.flow_model.specs.Derived.{Derived, HasAll, Set}
use Rattle.flow_model.specs.Policy.{IsViolation, none_given}
use Rattle.flow_model.specs.Rules.{Carries, Rules}
use Rattle.flow_model.specs.declared.policy.Violation.{Violation}
use Rattle.report_path.specs.declared.report.Report.{Report}
use Rattle.report_path.specs.declared.report.ViewStep.{ViewStep}
use Rattle.report_path.specs.Reports.{IsValidReport, violation_of}
use Rattle.fact_log.specs.declared.log.Line.{Line}
use Rattle.fact_log.specs.Logs.{HasFacts, IsLog}
use Rattle.view_solver.specs.Judged.{AreViolationsBy}
use Rattle.derivation.specs.AllReports.{AreLogged, AreReports, AreReportsOf}
use Rattle.derivation.specs.Cuts.{IsReportOf}
use Rattle.derivation.proofs.Bodies.{push_cases}

map_more : (reports : List Report) (r : Report) → map violation_of (reports ++ r ∷ []) ≡ map violation_of reports ++ violation_of r ∷ []
map_more [] r = refl
map_more (s ∷ reports) r = ap (λ (vs : List Violation). violation_of s ∷ vs) (map_more reports r)

take_more : (found : List Violation) (k : ℕ) (v : Violation) → slice_get found k ≡ Some v → take (k + 1) found ≡ take k found ++ v ∷ []
take_more [] k v at = absurd (cc)
take_more (w ∷ found) zero v at = (let same : w ≡ v = cc in ap (λ (v : Violation). v ∷ []) same)
take_more (w ∷ found) (suc k) v at =
    let shift : suc k + 1 ≡ suc (k + 1) = omega arith in
    ap (λ (n : ℕ). take n (w ∷ found)) shift ∙ ap (λ (vs : List Violation). w ∷ vs) (take_more found k v at)

pub one_more_report : (t : SubjectParts) (found : List Violation) (k : ℕ) (v : Violation) (reports : List Report) (r : Report) → slice_get found k ≡ Some v → AreReportsOf t (take k found) reports → IsReportOf t v r → AreReportsOf t (take (k + 1) found) (reports ++ r ∷ [])
one_more_report t found k v reports r at before is = record {
  names = map_more reports r ∙ ap (λ (vs : List Violation). vs ++ violation_of r ∷ []) before.names ∙ ap (λ (w : Violation). take k found ++ w ∷ []) is.violation ∙ sym (take_more found k v at);
  valid = λ j s e. ⊎_elim (λ low. before.valid j s low.1) (λ last. subst (λ (s : Report). IsValidReport t s) last.1 is.valid) (push_cases reports r j s e);
}

get_contains : (found : List Violation) (k : ℕ) (v : Violation) → slice_get found k ≡ Some v → Contains found v
get_contains found k v at = subst (λ (w : Violation). Contains found w) (get_or_from_slice_get found k v v at) (Contains-get_or found k v (slice_get_within found k v at))

map_get : (reports : List Report) (k : ℕ) (r : Report) → slice_get reports k ≡ Some r → slice_get (map violation_of reports) k ≡ Some (violation_of r)
map_get [] k r at = absurd (cc)
map_get (s ∷ reports) zero r at = (let same : s ≡ r = cc in ap (λ (s : Report). Some (violation_of s)) same)
map_get (s ∷ reports) (suc k) r at = map_get reports k r at

module _ (t : SubjectParts) (l : ℕ) (lines : List Line) (views : List ViewStep) (set : Set) (log : IsLog t l lines views) (facts : HasFacts lines views set) (found : List Violation) (exact : AreViolationsBy t l (HasAll set) found) where
  pub all_logged : AreLogged t lines views found
  all_logged k bad at =
      let is = (exact.exact bad).0 (get_contains found k bad at) in
      let log' : IsLog t bad.lock lines views = subst (λ (l : ℕ). IsLog t l lines views) (sym is.0) log in
      record { log = log'; set = set; facts = facts; violation = subst (λ (l : ℕ). IsViolation t (Carries t l) l (HasAll set) bad.component bad.callback bad.status) (sym is.0) is.1 }

  pub all_reports : (reports : List Report) → AreViolationsBy t l (Derived (Rules t l) none_given) found → AreReportsOf t found reports → AreReports t l reports
  all_reports reports derivable of = record {
    lock = λ k r at. (let v : slice_get found k ≡ Some (violation_of r) = sym (ap (λ (vs : List Violation). slice_get vs k) of.names) ∙ map_get reports k r at in ((exact.exact (violation_of r)).0 (get_contains found k (violation_of r) v)).0);
    valid = of.valid;
    names = rw of.names derivable;
  }
