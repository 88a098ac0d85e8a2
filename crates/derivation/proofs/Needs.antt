-- What lines and views cite comes before them.
use Rattle.std.proofs.Common.{◌≡◌, ℕ, ◌<◌, List, Option, Some, None, length, refl, sym, ap, ◌∙◌, ⊎_elim}
use Rattle.std.specs.Prelude.{slice_get, take}
use Rattle.std.specs.Option.{option_and_then}
use Rattle.std.proofs.lemmas.Option.{slice_get_within}
use Rattle.app_model.specs.Facts.{Fact}
use Rattle.app_model.specs.Subject.{SubjectParts}
use Rattle.report_path.specs.declared.report.By.{By}
use Rattle.report_path.specs.declared.report.By.TheVariants.{Start, Outside, Own, Other}
use Rattle.report_path.specs.declared.report.ViewStep.{ViewStep}
use Rattle.report_path.specs.Lookups.{Has}
use Rattle.report_path.specs.Views.{IsBy}
use Rattle.report_path.proofs.Lists.{take_get}
use Rattle.fact_log.specs.declared.log.Line.{Line}
use Rattle.fact_log.specs.declared.log.Why.{Why}
use Rattle.fact_log.specs.declared.log.Why.TheVariants.{Entered, Led}
use Rattle.fact_log.specs.Logs.{IsLineBy, case_of_lines, end_in, end_of_line}
use Rattle.derivation.specs.Cuts.{ByNeeds, WhyNeeds, cited_by}

pub end_take : (lines : List Line) (k n : ℕ) (ends : List Fact) → end_in (take k lines) (Some n) ≡ Some ends → (n < k) × (end_in lines (Some n) ≡ Some ends)
end_take lines k n ends is = go (slice_get (take k lines) n) refl is
  where
    go : (o : Option Line) → slice_get (take k lines) n ≡ o → option_and_then end_of_line o ≡ Some ends → (n < k) × (end_in lines (Some n) ≡ Some ends)
    go None at e = absurd (cc)
    go (Some y) at e = (let g = take_get lines k n y at in (g.0, ap (option_and_then end_of_line) g.1 ∙ e))

pub end_there : (lines : List Line) (n : ℕ) (ends : List Fact) → end_in lines (Some n) ≡ Some ends → n < length lines
end_there lines n ends is = go (slice_get lines n) refl is
  where
    go : (o : Option Line) → slice_get lines n ≡ o → option_and_then end_of_line o ≡ Some ends → n < length lines
    go None at e = absurd (cc)
    go (Some y) at e = slice_get_within lines n y at

pub line_lower : (t : SubjectParts) (l : ℕ) (lines : List Line) (k : ℕ) (x : Line) (why : Why) → IsLineBy t l (take k lines) x why → (n : ℕ) → WhyNeeds why n → n < k
line_lower t l lines k x Entered h n e = absurd e
line_lower t l lines k x (Led from end) h n e = ⊎_elim
    (λ same. rw same (take_get lines k from h.value h.at).0)
    (λ cited. (end_take lines k n h.holds.by.value (sym (ap (end_in (take k lines)) cited) ∙ h.holds.by.at)).0) e

module _ (t : SubjectParts) (l : ℕ) (lines : List Line) (views : List ViewStep) (k : ℕ) (v : ViewStep) where
  low : {P : ViewStep → Type 0} → (j n : ℕ) → n ≡ j → Has (slice_get (take k views) j) P → n < k
  low j n e h = rw e (take_get views k j h.value h.at).0

  pub view_lower : (by : By) → IsBy (case_of_lines t l lines) (take k views) v by → (n : ℕ) → ByNeeds by n → n < k
  view_lower Start h n e = absurd e
  view_lower (Outside j e') h n e = low j n e h
  view_lower (Own j e' body) h n e = low j n e h
  view_lower (Other j w e' body) h n e = ⊎_elim (λ a. low j n a h) (λ a. low w n a h.holds) e

  pub line_there : (by : By) → IsBy (case_of_lines t l lines) (take k views) v by → (n : ℕ) → cited_by by ≡ Some n → n < length lines
  line_there Start h n e = absurd (cc)
  line_there (Outside j e') h n e = absurd (cc)
  line_there (Own j e' body) h n e = end_there lines n h.holds.holds.moves.carried.value (sym (ap (end_in lines) e) ∙ h.holds.holds.moves.carried.at)
  line_there (Other j w e' body) h n e = end_there lines n h.holds.holds.holds.moves.carried.value (sym (ap (end_in lines) e) ∙ h.holds.holds.holds.moves.carried.at)
