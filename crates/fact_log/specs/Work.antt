-- A log that is being made, and what is tested of it.
use Rattle.std.specs.Prelude.{ℕ, ◌≡◌, ◌<◌, ◌≤◌, ◌⊎◌, ◌↔◌, true, false, List, length, Option, Some, None}
use Rattle.app_model.specs.Facts.{Fact}
use Rattle.app_model.specs.Subject.{SubjectParts, IsSubject, slot_count}
use Rattle.report_path.specs.declared.goal.Goal.{Goal}
use Rattle.report_path.specs.declared.goal.Goal.TheVariants.{Before, Returned, Thrown}
use Rattle.report_path.specs.declared.report.By.{By}
use Rattle.report_path.specs.declared.report.By.TheVariants.{Outside, Own, Other}
use Rattle.report_path.specs.declared.report.ViewStep.{ViewStep}
use Rattle.report_path.specs.Views.{Case, IsView, fact_of}
use Rattle.solution.specs.Facts.{Facts, holds, facts_room, HasPlaces, SameSize}
use Rattle.solution.specs.Table.{row_len}
use Rattle.solution.specs.Words.{has}
use Rattle.fact_log.specs.declared.log.Line.{Line}
use Rattle.fact_log.specs.declared.log.Why.{Why}
use Rattle.fact_log.specs.declared.log.Why.TheVariants.{Led}
use Rattle.fact_log.specs.Logs.{HasFacts, IsLineBy, IsLog, case_of_lines, line_fact}

-- lock field l of a subject, and lines that may be cited
pub record Lines : Type 0 where
  pub subject : SubjectParts
  pub lock : ℕ
  pub lines : List Line

abbrev pub case_at : Lines → Case
case_at t = case_of_lines t.subject t.lock t.lines

-- the facts of a solution, those that are known, and their log
pub record WorkParts : Type 0 where
  pub subject : SubjectParts
  pub lock : ℕ
  pub solution : Facts
  pub known : Facts
  pub lines : List Line
  pub views : List ViewStep

abbrev pub case_in : WorkParts → Case
case_in w = case_of_lines w.subject w.lock w.lines

pub record IsWork (w : WorkParts) : Type 0 where
  pub few_lines : length w.lines ≤ 4294967295
  pub few_views : length w.views ≤ 4294967295
  pub sound : IsSubject w.subject
  pub lock : w.lock < slot_count w.subject
  pub places : HasPlaces w.subject w.solution
  pub known_places : HasPlaces w.subject w.known
  pub log : IsLog w.subject w.lock w.lines w.views
  pub logged : HasFacts w.lines w.views (holds w.known)

-- what is worked on is the same
pub record Keeps (old new : WorkParts) : Type 0 where
  pub subject : new.subject ≡ old.subject
  pub lock : new.lock ≡ old.lock
  pub solution : new.solution ≡ old.solution

-- a fact of the solution that is not known
abbrev pub IsMissing : WorkParts → Fact → Type 0
IsMissing w f = (holds w.solution f ≡ true) × (holds w.known f ≡ false)

abbrev pub AreMissing : WorkParts → (place : ℕ → ℕ → Fact) → (word : ℕ) → Type 0
AreMissing w place word = (e s : ℕ) → (has word e s ≡ true) ↔ IsMissing w (place e s)

-- a line, or a view, that may come
pub record IsNewLine (w : WorkParts) (x : Line) : Type 0 where
  pub missing : IsMissing w (line_fact x)
  pub led : IsLineBy w.subject w.lock w.lines x x.why

pub record IsNewView (w : WorkParts) (v : ViewStep) : Type 0 where
  pub missing : IsMissing w (fact_of v)
  pub seen : IsView (case_in w) w.views v

-- ---- lines and views by their parts
abbrev pub line : (m e : ℕ) → Goal → (s : ℕ) → Why → Line
line m e goal s why = record { method = m; entry = e; goal = goal; status = s; why = why }

abbrev pub led : Line → (from : ℕ) → (end : Option ℕ) → Line
led x from end = line x.method x.entry x.goal x.status (Led from end)

abbrev pub view : (c q s : ℕ) → By → ViewStep
view c q s by = record { component = c; state = q; status = s; by = by }

-- by an edge of the component's own, or of another one beside a view
abbrev pub moved_by : (first : Option ℕ) → (mover edge : ℕ) → (body : Option ℕ) → By
moved_by None v e None = Outside v e
moved_by None v e (Some b) = Own v e b
moved_by (Some v) w e b = Other v w e b

abbrev pub moved : ViewStep → (first : Option ℕ) → (mover edge : ℕ) → (body : Option ℕ) → ViewStep
moved v first mover edge body = view v.component v.state v.status (moved_by first mover edge body)

-- ---- searches
abbrev pub NoneIs : {A : Type 0} → Option A → Type 0 → Type 0
NoneIs o P = o ≡ None → P

-- nothing can be added
pub record NothingNew (w : WorkParts) : Type 0 where
  pub lines : (x : Line) → ¬ IsNewLine w x
  pub views : (v : ViewStep) → ¬ IsNewView w v

-- ---- a fact came to those that are known
pub record Came (old : Facts) (f : Fact) (new : Facts) : Type 0 where
  pub only : (g : Fact) → holds new g ≡ true → (holds old g ≡ true) ⊎ (g ≡ f)
  pub size : SameSize old new
  pub falls : holds old f ≡ false → facts_room new < facts_room old

-- a method has a place for what leads there
abbrev pub HasRoom : Facts → Goal → (m : ℕ) → Type 0
HasRoom t (Before i) m = i < row_len t.code m
HasRoom t Returned m = m < row_len t.ends 0
HasRoom t Thrown m = m < row_len t.ends 1
