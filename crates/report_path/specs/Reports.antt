-- Valid reports.
use Rattle.std.specs.Prelude.{ℕ, ◌≡◌, ◌<◌, ◌+◌, List, ◌∷◌, length, take, Option, Some, None, Result, Ok, Err, slice_get}
use Rattle.app_model.specs.Facts.{Fact}
use Rattle.app_model.specs.Subject.{SubjectParts}
use Rattle.flow_model.specs.Policy.{IsViolation}
use Rattle.flow_model.specs.Rules.{Carries}
use Rattle.flow_model.specs.declared.policy.Violation.{Violation}
use Rattle.report_path.specs.declared.report.BodyPath.{BodyPath}
use Rattle.report_path.specs.declared.report.Report.{Report}
use Rattle.report_path.specs.declared.report.ViewStep.{ViewStep}
use Rattle.report_path.specs.Lookups.{Has}
use Rattle.report_path.specs.Paths.{IsBody, cited_in}
use Rattle.report_path.specs.Views.{Case, IsView, fact_of}

-- ---- pieces by number: each cites pieces before it; past the end there is none
abbrev pub RightBody : SubjectParts → (l : ℕ) → (bodies : List BodyPath) → (k : ℕ) → Type 0
RightBody x l bodies k = (b : BodyPath) → slice_get bodies k ≡ Some b → IsBody x l (take k bodies) b

abbrev pub RightView : Case → (views : List ViewStep) → (k : ℕ) → Type 0
RightView t views k = (v : ViewStep) → slice_get views k ≡ Some v → IsView t (take k views) v

-- the last step is the violation that the report names, by its edge, from its view and what its body shows
pub record IsLast (x : SubjectParts) (r : Report) (v : ViewStep) (ends : List Fact) : Type 0 where
  pub violation : IsViolation x (Carries x r.lock) r.lock (λ facts. facts ≡ fact_of v ∷ ends) r.component r.callback r.status
  pub edge : violation.number ≡ r.edge

abbrev pub IsExit : SubjectParts → Report → Type 0
IsExit x r = Has (slice_get r.views.items r.view) (λ v. Has (cited_in r.bodies.items r.body) (IsLast x r v))

abbrev pub case_of : SubjectParts → Report → Case
case_of x r = record { subject = x; lock = r.lock; ends = cited_in r.bodies.items }

-- ---- the violation of which it is a report
abbrev pub violation_of : Report → Violation
violation_of r = record { component = r.component; callback = r.callback; lock = r.lock; status = r.status }

-- ---- a valid report
pub record IsValidReport (x : SubjectParts) (r : Report) : Type 0 where
  pub bodies : (k : ℕ) → RightBody x r.lock r.bodies.items k
  pub views : (k : ℕ) → RightView (case_of x r) r.views.items k
  pub exit : IsExit x r

-- ---- the verdict on a report: the first piece that is not right, where bodies are counted first, then views, then the exit
pub record IsRight (x : SubjectParts) (r : Report) (n : ℕ) : Type 0 where
  pub body : RightBody x r.lock r.bodies.items n
  pub view : (k : ℕ) → n ≡ length r.bodies.items + k → RightView (case_of x r) r.views.items k
  pub exit : n ≡ length r.bodies.items + length r.views.items → IsExit x r

abbrev pub FirstWrong : (Right : ℕ → Type 0) → Option ℕ → Type 0
FirstWrong Right None = (k : ℕ) → Right k
FirstWrong Right (Some k) = (¬ Right k) × ((j : ℕ) → j < k → Right j)

abbrev pub IsVerdict : SubjectParts → Report → Result Unit ℕ → Type 0
IsVerdict x r (Ok u) = IsValidReport x r
IsVerdict x r (Err n) = FirstWrong (IsRight x r) (Some n)
