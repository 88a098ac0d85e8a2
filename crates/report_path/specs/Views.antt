-- The views of a report: states of components at idle moments, of which each follows from earlier ones by an edge.
use Rattle.std.specs.Prelude.{ℕ, ◌≡◌, ◌≢◌, ◌<◌, List, length, Option, Some, None, slice_get}
use Rattle.app_model.specs.declared.component.Edge.{Edge}
use Rattle.app_model.specs.Components.{edge_at}
use Rattle.app_model.specs.Facts.{Fact, View}
use Rattle.app_model.specs.Subject.{SubjectParts}
use Rattle.flow_model.specs.Rules.{Carries, no_lock}
use Rattle.report_path.specs.declared.report.By.{By}
use Rattle.report_path.specs.declared.report.By.TheVariants.{Start, Outside, Own, Other}
use Rattle.report_path.specs.declared.report.ViewStep.{ViewStep}
use Rattle.report_path.specs.Lookups.{Has}

abbrev pub fact_of : ViewStep → Fact
fact_of v = View v.component v.state v.status

-- lock field l of a subject, and what is shown by what may be cited, by its number, or by nothing
pub record Case : Type 0 where
  pub subject : SubjectParts
  pub lock : ℕ
  pub ends : Option ℕ → Option (List Fact)

-- an edge from the view's state carries its status to t, with what is cited
pub record Moves (t : Case) (v : ViewStep) (edge : Edge) (body : Option ℕ) (s : ℕ) : Type 0 where
  pub state : edge.from ≡ v.state
  pub carried : Has (t.ends body) (λ ends. Carries t.subject t.lock v.component edge v.status s ends)

-- edge number e of the view's component
abbrev pub edge_from : Case → ViewStep → (e : ℕ) → Option Edge
edge_from t v e = edge_at t.subject.list v.component e

abbrev pub IsStart : Case → ViewStep → Type 0
IsStart t v = (v.component < length t.subject.list) × (v.state ≡ 0) × (v.status ≡ no_lock)

-- by an edge of the same component
pub record IsAfter (t : Case) (first v : ViewStep) (body : Option ℕ) (edge : Edge) : Type 0 where
  pub component : first.component ≡ v.component
  pub enters : edge.to ≡ v.state
  pub moves : Moves t first edge body v.status

abbrev pub IsOwn : Case → (before : List ViewStep) → ViewStep → (j e : ℕ) → (body : Option ℕ) → Type 0
IsOwn t before v j e body = Has (slice_get before j) (λ first. Has (edge_from t first e) (IsAfter t first v body))

-- by an edge of another component, which has the same status
pub record IsBeside (t : Case) (first mover v : ViewStep) (body : Option ℕ) (edge : Edge) : Type 0 where
  pub component : first.component ≡ v.component
  pub state : first.state ≡ v.state
  pub status : first.status ≡ mover.status
  pub apart : mover.component ≢ v.component
  pub moves : Moves t mover edge body v.status

abbrev pub IsOther : Case → (before : List ViewStep) → ViewStep → (j w e : ℕ) → (body : Option ℕ) → Type 0
IsOther t before v j w e body =
    Has (slice_get before j) (λ first. Has (slice_get before w) (λ mover. Has (edge_from t mover e) (IsBeside t first mover v body)))

abbrev pub IsBy : Case → (before : List ViewStep) → ViewStep → By → Type 0
IsBy t before v Start = IsStart t v
IsBy t before v (Outside j e) = IsOwn t before v j e None
IsBy t before v (Own j e body) = IsOwn t before v j e (Some body)
IsBy t before v (Other j w e body) = IsOther t before v j w e body

-- ---- a valid view, which cites views before it
abbrev pub IsView : Case → (before : List ViewStep) → ViewStep → Type 0
IsView t before v = IsBy t before v v.by
