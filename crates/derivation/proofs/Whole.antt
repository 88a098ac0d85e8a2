-- All pieces as a report.
use Rattle.std.proofs.Common.{◌≡◌, ℕ, Bool, List, ◌∷◌, length, refl, sym, ap, ◌∙◌}
use Rattle.std.specs.Prelude.{slice_index}
use Rattle.std.proofs.lemmas.Option.{slice_get_within}
use Rattle.app_model.specs.Facts.{Fact}
use Rattle.app_model.specs.Subject.{SubjectParts, IsSubject}
use Rattle.flow_model.specs.declared.policy.Violation.{Violation}
use Rattle.report_path.specs.declared.report.Report.{Report}
use Rattle.report_path.specs.declared.report.ViewStep.{ViewStep}
use Rattle.report_path.specs.Views.{fact_of}
use Rattle.flow_model.specs.Policy.{IsViolation}
use Rattle.flow_model.specs.Rules.{Carries}
use Rattle.fact_log.specs.declared.log.Line.{Line}
use Rattle.fact_log.specs.Logs.{end_in}
use Rattle.derivation.specs.declared.cutting.Exit.{Exit}
use Rattle.derivation.specs.Cuts.{AreMade, AreNeeded, AreSeen, IsCut, IsLastBy, IsSameView, IsServing, number_in}
use Rattle.derivation.proofs.Needs.{end_there}
use Rattle.derivation.proofs.Views.{cites}

fact_same : (w v : ViewStep) → IsSameView w v → fact_of v ≡ fact_of w
fact_same w v same = rw (same.component, same.state, same.status) refl

last_by : (t : SubjectParts) (bad : Violation) (e : ℕ) (w v : ViewStep) (ends : List Fact) → fact_of v ≡ fact_of w → IsLastBy t bad e v ends
    → (is : IsViolation t (Carries t bad.lock) bad.lock (λ facts. facts ≡ fact_of w ∷ ends) bad.component bad.callback bad.status) × (is.number ≡ e)
last_by t bad e w v ends same last = (
  record {
    state = last.violation.state;
    before = last.violation.before;
    number = last.violation.number;
    edge = last.violation.edge;
    needs = last.violation.needs;
    slot = last.violation.slot;
    there = last.violation.there;
    from = last.violation.from;
    callback = last.violation.callback;
    carried = last.violation.carried;
    holds = last.violation.holds ∙ ap (λ (f : Fact). f ∷ ends) same;
    exit = last.violation.exit;
    held = last.violation.held;
    answers = last.violation.answers;
  },
  last.edge,
)

module _ (t : SubjectParts) (bad : Violation) (lines : List Line) (views : List ViewStep) (exit : Exit) (sound : IsSubject t) (seen marks : List Bool) (needed : AreNeeded lines views exit seen marks) where
  pub cut : (numbers : List ℕ) (places : List ℕ) (r : Report) → AreMade t lines marks numbers r.bodies.items (length lines) → AreSeen lines views seen numbers places r.views.items (length views)
      → r.component ≡ bad.component → r.callback ≡ bad.callback → r.lock ≡ bad.lock → r.status ≡ bad.status → r.view ≡ slice_index places exit.view → r.edge ≡ exit.edge → r.body ≡ number_in numbers exit.end → IsCut t bad lines views exit r
  cut numbers places r made viewed c b k s view edge body log last =
      let m = made bad.lock sound log.led needed.settled in
      let serving : IsServing t bad.lock lines views seen marks numbers r.bodies.items = record { log = log; served = needed.served; numbered = m.numbered } in
      let w = viewed t bad.lock marks r.bodies.items serving in
      let v = last.value in
      let lt = slice_get_within views exit.view v last.at in
      let from = w.viewed.view exit.view v lt last.at (needed.view lt) in
      let ends = last.holds.value in
      let shown = cites lines marks numbers r.bodies.items exit.end ends m.numbered last.holds.at (λ n is. needed.line n is (end_there lines n ends (sym (ap (end_in lines) is) ∙ last.holds.at))) in
      let one = last_by t bad exit.edge from.value v ends (fact_same from.value v from.holds) last.holds.holds in
      record {
        valid = record {
          bodies = rw k m.valid;
          views = rw k w.valid;
          exit = record {
            value = from.value;
            at = rw view from.at;
            holds = record { value = ends; at = rw body shown; holds = rw (k, c, b, s) (record { violation = one.0; edge = one.1 ∙ sym edge }) };
          };
        };
        violation = rw (c, b, k, s) refl;
      }
