-- What the test of a report asks of one instruction, and of the last step.
use Rattle.std.specs.Prelude.{ℕ, ◌≡◌, ◌<◌, ◌≤◌, ◌⊎◌, Bool, true, false, List, [], ◌∷◌, Option, Some, Contains, length}
use Rattle.app_model.specs.declared.component.Edge.{Edge}
use Rattle.app_model.specs.Components.{edge_at, exits_at}
use Rattle.app_model.specs.Facts.{Fact, At, Ret, Exc}
use Rattle.app_model.specs.Masks.{in_mask, is_held}
use Rattle.app_model.specs.Parts.{AppParts}
use Rattle.app_model.specs.Subject.{SubjectParts, IsSubject, answers_at, callees_at, slot_count}
use Rattle.app_model.specs.Words.{code_len, handler_at, leaves_at, pc_at, successor_at}
use Rattle.flow_model.specs.Subject.{Masks, is_open, returns_at, status_masks}
use Rattle.report_path.specs.declared.goal.Goal.{Goal}
use Rattle.report_path.specs.declared.goal.Goal.TheVariants.{Before, Returned, Thrown}
use Rattle.report_path.specs.declared.report.BodyPath.{BodyPath}
use Rattle.report_path.specs.declared.report.End.{End}
use Rattle.report_path.specs.declared.report.Report.{Report}
use Rattle.report_path.specs.declared.report.ViewStep.{ViewStep}
use Rattle.report_path.specs.Lookups.{Has}
use Rattle.report_path.specs.Paths.{cited_in, end_fact}
use Rattle.report_path.specs.Views.{Case, Moves}

-- the first instruction of method m from which on no pc is below that one
pub record IsFrom (app : AppParts) (m pc n : ℕ) : Type 0 where
  pub within : n ≤ code_len app m
  pub below : (k p : ℕ) → k < n → pc_at app m k ≡ Some p → p < pc
  pub above : (k p : ℕ) → n ≤ k → pc_at app m k ≡ Some p → pc ≤ p

abbrev pub fact_at : Goal → (m e s : ℕ) → Fact
fact_at (Before i) m e s = At m e i s
fact_at Returned m e s = Ret m e s
fact_at Thrown m e s = Exc m e s

-- an instruction of a method, at a status of lock field l
pub record Spot : Type 0 where
  pub subject : SubjectParts
  pub lock : ℕ
  pub method : ℕ
  pub index : ℕ
  pub status : ℕ

pub record IsSpot (t : Spot) : Type 0 where
  pub sound : IsSubject t.subject
  pub method : t.method < length t.subject.app.methods
  pub index : t.index < code_len t.subject.app t.method
  pub status : t.status < 8

abbrev pub masks_of : Spot → Masks
masks_of t = status_masks t.subject t.lock

-- ---- by itself: on to a successor, back from the method, or thrown
abbrev pub PassesBy : Spot → (j s k : ℕ) → Type 0
PassesBy t j s k =
    (successor_at t.subject.app t.method t.index k ≡ Some j) × (in_mask ((masks_of t).passes t.method t.index k t.status) s ≡ true)

abbrev pub PassesTo : Spot → (j s : ℕ) → Type 0
PassesTo t j s = (k : ℕ) × PassesBy t j s k

abbrev pub CaughtBy : Spot → (j k : ℕ) → Type 0
CaughtBy t j k = handler_at t.subject.app t.method t.index k ≡ Some j

abbrev pub CaughtAt : Spot → (j : ℕ) → Type 0
CaughtAt t j = (k : ℕ) × CaughtBy t j k

abbrev pub LeadsOn : Spot → Goal → (s : ℕ) → Type 0
LeadsOn t (Before j) s = PassesTo t j s
LeadsOn t Returned s = (returns_at t.subject t.method t.index ≡ true) × (t.status ≡ s)
LeadsOn t Thrown s = ⊥

-- where what is thrown goes
abbrev pub ThrownTo : Spot → Goal → Type 0
ThrownTo t (Before j) = CaughtAt t j
ThrownTo t Returned = ⊥
ThrownTo t Thrown = leaves_at t.subject.app t.method t.index ≡ true

abbrev pub Throws : Spot → Goal → (s : ℕ) → Type 0
Throws t goal s = (in_mask ((masks_of t).throws t.method t.index t.status) s ≡ true) × ThrownTo t goal

abbrev pub ByItself : Spot → Goal → (s : ℕ) → Type 0
ByItself t goal s = LeadsOn t goal s ⊎ Throws t goal s

-- ---- by a call: where that returns, and where it throws
abbrev pub IsCalled : Spot → (n : ℕ) → Type 0
IsCalled t n = (is_open t.subject t.lock t.method t.index t.status ≡ true) × Contains (callees_at t.subject t.method t.index) (record { 0 = n })

abbrev pub ComesBack : Spot → Goal → Type 0
ComesBack t (Before j) = successor_at t.subject.app t.method t.index 0 ≡ Some j
ComesBack t Returned = ⊥
ComesBack t Thrown = ⊥

abbrev pub ComesFrom : Spot → (thrown : Bool) → Goal → Type 0
ComesFrom t true goal = ThrownTo t goal
ComesFrom t false goal = ComesBack t goal

-- what an end shows
abbrev pub end_at : End → Fact
end_at b = end_fact b.thrown b.method b.entry b.exit

pub record ByCall (t : Spot) (b : End) (goal : Goal) (s : ℕ) : Type 0 where
  pub called : IsCalled t b.method
  pub entry : b.entry ≡ t.status
  pub exit : b.exit ≡ s
  pub comes : ComesFrom t b.thrown goal

-- ---- lock field l of a subject, and the bodies of a report
pub record Given : Type 0 where
  pub subject : SubjectParts
  pub lock : ℕ
  pub bodies : List BodyPath

abbrev pub case_in : Given → Case
case_in t = record { subject = t.subject; lock = t.lock; ends = cited_in t.bodies }

-- ---- what is cited shows the fact
abbrev pub Shows : (ends : Option ℕ → Option (List Fact)) → (body : Option ℕ) → Fact → Type 0
Shows ends body f = Has (ends body) (λ facts. facts ≡ f ∷ [])

pub record IsReturn (b : BodyPath) (m e s : ℕ) : Type 0 where
  pub thrown : b.thrown ≡ false
  pub method : b.method ≡ m
  pub entry : b.entry ≡ e
  pub exit : b.exit ≡ s

-- ---- the last step
pub record IsUnmet (x : SubjectParts) (r : Report) : Type 0 where
  pub slot : r.lock < slot_count x
  pub exit : in_mask (exits_at x.list r.component) r.callback ≡ true
  pub held : is_held r.status ≡ true
  pub answers : answers_at x r.component r.lock ≡ true

pub record EndsBy (t : Case) (r : Report) (v : ViewStep) (edge : Edge) : Type 0 where
  pub callback : edge.callback ≡ r.callback
  pub moves : Moves t v edge r.body r.status

abbrev pub IsEnd : Case → Report → ViewStep → Type 0
IsEnd t r v = (v.component ≡ r.component) × Has (edge_at t.subject.list r.component r.edge) (EndsBy t r v)
