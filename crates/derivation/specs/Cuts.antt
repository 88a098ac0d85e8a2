-- A report cut out of a log: the bodies and views of the lines and views that are marked.
use Rattle.std.specs.Prelude.{ℕ, ◌≡◌, ◌<◌, ◌≤◌, ◌+◌, ◌⊎◌, Bool, true, false, List, ◌∷◌, length, Option, Some, None, slice_get, slice_index}
use Rattle.app_model.specs.Facts.{Fact}
use Rattle.app_model.specs.Parts.{AppParts}
use Rattle.app_model.specs.Subject.{SubjectParts, IsSubject}
use Rattle.app_model.specs.Words.{code_len, pc_at}
use Rattle.flow_model.specs.Policy.{IsViolation}
use Rattle.flow_model.specs.Rules.{Carries}
use Rattle.flow_model.specs.declared.policy.Violation.{Violation}
use Rattle.report_path.specs.declared.goal.Goal.{Goal}
use Rattle.report_path.specs.declared.goal.Goal.TheVariants.{Before, Returned, Thrown}
use Rattle.report_path.specs.declared.report.BodyPath.{BodyPath}
use Rattle.report_path.specs.declared.report.By.{By}
use Rattle.report_path.specs.declared.report.By.TheVariants.{Start, Outside, Own, Other}
use Rattle.report_path.specs.declared.report.Report.{Report}
use Rattle.report_path.specs.declared.report.Step.{Step}
use Rattle.report_path.specs.declared.report.ViewStep.{ViewStep}
use Rattle.report_path.specs.Lookups.{Has}
use Rattle.report_path.specs.Paths.{Entry, IsPath, cited_in}
use Rattle.report_path.specs.Reports.{IsValidReport, RightBody, RightView, violation_of}
use Rattle.report_path.specs.Views.{Case, fact_of}
use Rattle.fact_log.specs.declared.log.Line.{Line}
use Rattle.fact_log.specs.declared.log.Why.{Why}
use Rattle.fact_log.specs.declared.log.Why.TheVariants.{Entered, Led}
use Rattle.fact_log.specs.Logs.{AreLines, IsLog, end_in, line_fact}
use Rattle.derivation.specs.declared.cutting.Exit.{Exit}

-- ---- marks
abbrev pub Marked : List Bool → ℕ → Type 0
Marked marks n = slice_get marks n ≡ Some true

-- the places of which P holds are marked, those marked before stay so, and no other
pub record Marks (old : List Bool) (P : ℕ → Type 0) (new : List Bool) : Type 0 where
  pub there : (n : ℕ) → P n → n < length old → Marked new n
  pub kept : (n : ℕ) → Marked old n → Marked new n
  pub only : (n : ℕ) → Marked new n → Marked old n ⊎ P n
  pub len : length new ≡ length old

-- a line needs that line
abbrev pub WhyNeeds : Why → ℕ → Type 0
WhyNeeds Entered n = ⊥
WhyNeeds (Led from end) n = (n ≡ from) ⊎ (end ≡ Some n)

-- a view needs that view, and the line that it cites
abbrev pub ByNeeds : By → ℕ → Type 0
ByNeeds Start n = ⊥
ByNeeds (Outside j e) n = n ≡ j
ByNeeds (Own j e body) n = n ≡ j
ByNeeds (Other j w e body) n = (n ≡ j) ⊎ (n ≡ w)

abbrev pub cited_by : By → Option ℕ
cited_by Start = None
cited_by (Outside j e) = None
cited_by (Own j e body) = Some body
cited_by (Other j w e body) = body

-- what the marked lines from k on need is marked
abbrev pub AreSettled : List Line → (k : ℕ) → List Bool → Type 0
AreSettled lines k marks = (t : SubjectParts) (l : ℕ) → AreLines t l lines → (j : ℕ) (x : Line) → k ≤ j → slice_get lines j ≡ Some x → Marked marks j → (n : ℕ) → WhyNeeds x.why n → Marked marks n

pub record IsOneDown (lines : List Line) (k : ℕ) (old new : List Bool) : Type 0 where
  pub settled : length old ≡ length lines → AreSettled lines (k + 1) old → AreSettled lines k new
  pub kept : (n : ℕ) → Marked old n → Marked new n
  pub len : length new ≡ length old

pub record AreAllMarked (lines : List Line) (old new : List Bool) : Type 0 where
  pub settled : AreSettled lines 0 new
  pub kept : (n : ℕ) → Marked old n → Marked new n

-- what a view needs is marked
pub record IsServed (v : ViewStep) (seen marks : List Bool) : Type 0 where
  pub places : (n : ℕ) → ByNeeds v.by n → Marked seen n
  pub line : (n : ℕ) → cited_by v.by ≡ Some n → Marked marks n

abbrev pub AreServed : List Line → List ViewStep → (k : ℕ) → (seen marks : List Bool) → Type 0
AreServed lines views k seen marks = (t : SubjectParts) (l : ℕ) → IsLog t l lines views → (j : ℕ) (v : ViewStep) → k ≤ j → slice_get views j ≡ Some v → Marked seen j → IsServed v seen marks

pub record HasSizes (lines : List Line) (views : List ViewStep) (seen marks : List Bool) : Type 0 where
  pub of_views : length seen ≡ length views
  pub of_lines : length marks ≡ length lines

pub record IsOneViewDown (lines : List Line) (views : List ViewStep) (k : ℕ) (seen marks seen' marks' : List Bool) : Type 0 where
  pub served : HasSizes lines views seen marks → AreServed lines views (k + 1) seen marks → AreServed lines views k seen' marks'
  pub kept_views : (n : ℕ) → Marked seen n → Marked seen' n
  pub kept_lines : (n : ℕ) → Marked marks n → Marked marks' n
  pub len_views : length seen' ≡ length seen
  pub len_lines : length marks' ≡ length marks

pub record AreViewsMarked (lines : List Line) (views : List ViewStep) (seen marks seen' marks' : List Bool) : Type 0 where
  pub served : AreServed lines views 0 seen' marks'
  pub kept_views : (n : ℕ) → Marked seen n → Marked seen' n
  pub kept_lines : (n : ℕ) → Marked marks n → Marked marks' n
  pub len_lines : length marks' ≡ length marks

-- a view and a line are marked, with all that they need
pub record AreNeeded (lines : List Line) (views : List ViewStep) (exit : Exit) (seen marks : List Bool) : Type 0 where
  pub settled : AreSettled lines 0 marks
  pub served : AreServed lines views 0 seen marks
  pub view : exit.view < length views → Marked seen exit.view
  pub line : (n : ℕ) → exit.end ≡ Some n → n < length lines → Marked marks n

-- ---- bodies
-- the pc of where a line stands
abbrev pub IsPc : AppParts → (m : ℕ) → Goal → (pc : ℕ) → Type 0
IsPc app m goal pc = (i p : ℕ) → goal ≡ Before i → m < length app.methods → i < code_len app m → pc_at app m i ≡ Some p → pc ≡ p

abbrev pub before_of : Why → Option ℕ
before_of Entered = None
before_of (Led from end) = Some from

abbrev pub ended_by : Why → Option ℕ
ended_by Entered = None
ended_by (Led from end) = end

abbrev pub thrown_by : Goal → Option Bool
thrown_by (Before i) = None
thrown_by Returned = Some false
thrown_by Thrown = Some true

abbrev pub number_in : List ℕ → Option ℕ → Option ℕ
number_in numbers None = None
number_in numbers (Some j) = Some (slice_index numbers j)

-- each marked end below that line has its body, by its number
pub record AreNumbered (lines : List Line) (marks : List Bool) (numbers : List ℕ) (bodies : List BodyPath) (below : ℕ) : Type 0 where
  pub body : (j : ℕ) (ends : List Fact) → j < below → Marked marks j → end_in lines (Some j) ≡ Some ends → cited_in bodies (Some (slice_index numbers j)) ≡ Some ends

-- lines whose marked ends below one of them have their bodies
pub record IsReady (t : SubjectParts) (l : ℕ) (lines : List Line) (marks : List Bool) (numbers : List ℕ) (bodies : List BodyPath) (k : ℕ) : Type 0 where
  pub sound : IsSubject t
  pub led : AreLines t l lines
  pub settled : AreSettled lines 0 marks
  pub numbered : AreNumbered lines marks numbers bodies k

abbrev pub entry_at : SubjectParts → (l : ℕ) → (bodies : List BodyPath) → Line → Entry
entry_at t l bodies x = record { subject = t; lock = l; before = bodies; method = x.method; status = x.entry }

-- the steps lead to the end x0, which is line k
abbrev pub IsPathOf : SubjectParts → List Line → List ℕ → (k : ℕ) → Line → List Step → Type 0
IsPathOf t lines numbers k x0 steps = (l : ℕ) (marks : List Bool) (bodies : List BodyPath) (thrown : Bool) → IsReady t l lines marks numbers bodies k → Marked marks k → thrown_by x0.goal ≡ Some thrown → IsPath (entry_at t l bodies x0) steps (line_fact x0)

pub record AreMadeOf (t : SubjectParts) (l : ℕ) (lines : List Line) (marks : List Bool) (numbers : List ℕ) (bodies : List BodyPath) (k : ℕ) : Type 0 where
  pub numbered : AreNumbered lines marks numbers bodies k
  pub valid : (j : ℕ) → RightBody t l bodies j
  pub len : length numbers ≡ k

-- for each lock field that these are lines of: the marked ends below a line have valid bodies
abbrev pub AreMade : SubjectParts → List Line → List Bool → List ℕ → List BodyPath → ℕ → Type 0
AreMade t lines marks numbers bodies k = (l : ℕ) → IsSubject t → AreLines t l lines → AreSettled lines 0 marks → AreMadeOf t l lines marks numbers bodies k

abbrev pub IsOneMore : SubjectParts → List Line → List Bool → ℕ → List ℕ → List BodyPath → List ℕ → List BodyPath → Type 0
IsOneMore t lines marks k numbers bodies numbers' bodies' = AreMade t lines marks numbers bodies k → AreMade t lines marks numbers' bodies' (k + 1)

-- ---- views
pub record IsSameView (w v : ViewStep) : Type 0 where
  pub component : w.component ≡ v.component
  pub state : w.state ≡ v.state
  pub status : w.status ≡ v.status

-- each marked view below that one is there, by its place
pub record AreViewed (views : List ViewStep) (seen : List Bool) (places : List ℕ) (made : List ViewStep) (below : ℕ) : Type 0 where
  pub view : (j : ℕ) (v : ViewStep) → j < below → slice_get views j ≡ Some v → Marked seen j → Has (slice_get made (slice_index places j)) (λ w. IsSameView w v)

abbrev pub by_of : (places numbers : List ℕ) → By → By
by_of places numbers Start = Start
by_of places numbers (Outside j e) = Outside (slice_index places j) e
by_of places numbers (Own j e body) = Own (slice_index places j) e (slice_index numbers body)
by_of places numbers (Other j w e body) = Other (slice_index places j) (slice_index places w) e (number_in numbers body)

abbrev pub view_of : (places numbers : List ℕ) → ViewStep → ViewStep
view_of places numbers v = record { component = v.component; state = v.state; status = v.status; by = by_of places numbers v.by }

abbrev pub case_by : SubjectParts → (l : ℕ) → List BodyPath → Case
case_by t l bodies = record { subject = t; lock = l; ends = cited_in bodies }

pub record AreSeenOf (t : SubjectParts) (l : ℕ) (views : List ViewStep) (seen : List Bool) (bodies : List BodyPath) (places : List ℕ) (made : List ViewStep) (k : ℕ) : Type 0 where
  pub viewed : AreViewed views seen places made k
  pub valid : (j : ℕ) → RightView (case_by t l bodies) made j
  pub len : length places ≡ k

-- a log whose marked ends have their bodies, and whose marked views have what they need
pub record IsServing (t : SubjectParts) (l : ℕ) (lines : List Line) (views : List ViewStep) (seen marks : List Bool) (numbers : List ℕ) (bodies : List BodyPath) : Type 0 where
  pub log : IsLog t l lines views
  pub served : AreServed lines views 0 seen marks
  pub numbered : AreNumbered lines marks numbers bodies (length lines)

-- for each such log: the marked views below a view are there and valid
abbrev pub AreSeen : List Line → List ViewStep → List Bool → List ℕ → List ℕ → List ViewStep → ℕ → Type 0
AreSeen lines views seen numbers places made k = (t : SubjectParts) (l : ℕ) (marks : List Bool) (bodies : List BodyPath) → IsServing t l lines views seen marks numbers bodies → AreSeenOf t l views seen bodies places made k

abbrev pub IsOneMoreView : List ViewStep → List Bool → List ℕ → ℕ → List ℕ → List ViewStep → List ℕ → List ViewStep → Type 0
IsOneMoreView views seen numbers k places made places' made' = (lines : List Line) → AreSeen lines views seen numbers places made k → AreSeen lines views seen numbers places' made' (k + 1)

-- ---- the last step
-- the last step by an edge, from a view and what the end shows
pub record IsLastBy (t : SubjectParts) (bad : Violation) (e : ℕ) (v : ViewStep) (ends : List Fact) : Type 0 where
  pub violation : IsViolation t (Carries t bad.lock) bad.lock (λ facts. facts ≡ fact_of v ∷ ends) bad.component bad.callback bad.status
  pub edge : violation.number ≡ e

abbrev pub IsExitAt : SubjectParts → Violation → List Line → List ViewStep → Exit → Type 0
IsExitAt t bad lines views exit = Has (slice_get views exit.view) (λ v. Has (end_in lines exit.end) (IsLastBy t bad exit.edge v))

-- a valid report of that violation
pub record IsReportOf (t : SubjectParts) (bad : Violation) (r : Report) : Type 0 where
  pub valid : IsValidReport t r
  pub violation : violation_of r ≡ bad

abbrev pub IsCut : SubjectParts → Violation → List Line → List ViewStep → Exit → Report → Type 0
IsCut t bad lines views exit r = IsLog t bad.lock lines views → IsExitAt t bad lines views exit → IsReportOf t bad r
