-- Logs: facts of one lock field, each with its reason, which cites earlier lines.
use Rattle.std.specs.Prelude.{ℕ, ◌≡◌, ◌<◌, ◌⊎◌, true, List, [], ◌∷◌, take, Option, Some, None, slice_get}
use Rattle.std.specs.Option.{option_and_then}
use Rattle.app_model.specs.Facts.{Fact, At}
use Rattle.app_model.specs.Subject.{SubjectParts}
use Rattle.flow_model.specs.Derived.{Set}
use Rattle.report_path.specs.declared.goal.Goal.{Goal}
use Rattle.report_path.specs.declared.goal.Goal.TheVariants.{Before, Returned, Thrown}
use Rattle.report_path.specs.declared.report.ViewStep.{ViewStep}
use Rattle.report_path.specs.Lookups.{Has}
use Rattle.report_path.specs.Paths.{Follows}
use Rattle.report_path.specs.Reports.{RightView}
use Rattle.report_path.specs.Tests.{fact_at}
use Rattle.report_path.specs.Views.{Case, fact_of}
use Rattle.fact_log.specs.declared.log.Line.{Line}
use Rattle.fact_log.specs.declared.log.Why.{Why}
use Rattle.fact_log.specs.declared.log.Why.TheVariants.{Entered, Led}

abbrev pub line_fact : Line → Fact
line_fact x = fact_at x.goal x.method x.entry x.status

-- ---- what a line shows where it is cited: the end of a method, and no place within it
abbrev pub end_by : Goal → Fact → Option (List Fact)
end_by (Before i) f = None
end_by Returned f = Some (f ∷ [])
end_by Thrown f = Some (f ∷ [])

abbrev pub end_of_line : Line → Option (List Fact)
end_of_line x = end_by x.goal (line_fact x)

abbrev pub end_in : List Line → Option ℕ → Option (List Fact)
end_in lines None = Some []
end_in lines (Some j) = option_and_then end_of_line (slice_get lines j)

-- ---- an instruction leads on in its method from line y to line x, with the end that is cited
pub record LeadsOn (t : SubjectParts) (l : ℕ) (before : List Line) (end : Option ℕ) (x y : Line) : Type 0 where
  pub method : y.method ≡ x.method
  pub entry : y.entry ≡ x.entry
  pub index : ℕ
  pub place : y.goal ≡ Before index
  pub status : y.status < 8
  pub by : Has (end_in before end) (λ ends. Follows t l (At y.method y.entry index y.status ∷ ends) (line_fact x))

abbrev pub IsLineBy : SubjectParts → (l : ℕ) → (before : List Line) → Line → Why → Type 0
IsLineBy t l before x Entered = (x.goal ≡ Before 0) × (x.status ≡ x.entry)
IsLineBy t l before x (Led from end) = Has (slice_get before from) (LeadsOn t l before end x)

-- ---- lines that each follow from those before them
abbrev pub AreLines : SubjectParts → (l : ℕ) → List Line → Type 0
AreLines t l lines = (k : ℕ) (x : Line) → slice_get lines k ≡ Some x → IsLineBy t l (take k lines) x x.why

-- views are those of a report, but that they cite lines in place of bodies
abbrev pub case_of_lines : SubjectParts → (l : ℕ) → List Line → Case
case_of_lines t l lines = record { subject = t; lock = l; ends = end_in lines }

pub record IsLog (t : SubjectParts) (l : ℕ) (lines : List Line) (views : List ViewStep) : Type 0 where
  pub led : AreLines t l lines
  pub seen : (k : ℕ) → RightView (case_of_lines t l lines) views k

-- ---- a fact has its line or its view
abbrev pub IsListed : List Line → Fact → Type 0
IsListed lines f = (k : ℕ) × Has (slice_get lines k) (λ x. line_fact x ≡ f)

abbrev pub IsSeen : List ViewStep → Fact → Type 0
IsSeen views f = (k : ℕ) × Has (slice_get views k) (λ v. fact_of v ≡ f)

abbrev pub IsLogged : List Line → List ViewStep → Fact → Type 0
IsLogged lines views f = IsListed lines f ⊎ IsSeen views f

abbrev pub HasFacts : List Line → List ViewStep → Set → Type 0
HasFacts lines views set = (f : Fact) → set f ≡ true → IsLogged lines views f
