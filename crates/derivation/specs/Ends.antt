-- What makes a violation: a view, an edge and an end of a log.
use Rattle.std.specs.Prelude.{ℕ, ◌≡◌, ◌<◌, List, Option, Some, None, slice_get}
use Rattle.app_model.specs.declared.component.Edge.{Edge}
use Rattle.app_model.specs.Components.{edge_at}
use Rattle.app_model.specs.Subject.{SubjectParts}
use Rattle.flow_model.specs.Rules.{Carries}
use Rattle.flow_model.specs.declared.policy.Violation.{Violation}
use Rattle.report_path.specs.declared.goal.Goal.TheVariants.{Returned}
use Rattle.report_path.specs.declared.report.ViewStep.{ViewStep}
use Rattle.report_path.specs.Lookups.{Has}
use Rattle.fact_log.specs.declared.log.Line.{Line}
use Rattle.fact_log.specs.Logs.{end_in}
use Rattle.derivation.specs.declared.cutting.Exit.{Exit}

-- the line says that the method returns
pub record IsRetLine (x : Line) (m e s : ℕ) : Type 0 where
  pub goal : x.goal ≡ Returned
  pub method : x.method ≡ m
  pub entry : x.entry ≡ e
  pub status : x.status ≡ s

abbrev pub FirstRet : List Line → (m e s : ℕ) → Option ℕ → Type 0
FirstRet lines m e s None = (k : ℕ) (x : Line) → slice_get lines k ≡ Some x → ¬ IsRetLine x m e s
FirstRet lines m e s (Some k) = Has (slice_get lines k) (λ x. IsRetLine x m e s)

abbrev pub CarriesBy : SubjectParts → Violation → List Line → ViewStep → Edge → Option ℕ → Type 0
CarriesBy t bad lines v edge end = Has (end_in lines end) (λ ends. Carries t bad.lock v.component edge v.status bad.status ends)

-- the edge leads from the view to the violation
pub record Leaves (t : SubjectParts) (bad : Violation) (lines : List Line) (v : ViewStep) (end : Option ℕ) (edge : Edge) : Type 0 where
  pub callback : edge.callback ≡ bad.callback
  pub from : edge.from ≡ v.state
  pub carried : CarriesBy t bad lines v edge end

pub record LeavesBy (t : SubjectParts) (bad : Violation) (lines : List Line) (v : ViewStep) (e : ℕ) (end : Option ℕ) : Type 0 where
  pub component : v.component ≡ bad.component
  pub edge : Has (edge_at t.list v.component e) (Leaves t bad lines v end)

abbrev pub LeavesFrom : SubjectParts → Violation → List Line → List ViewStep → (n e : ℕ) → Option ℕ → Type 0
LeavesFrom t bad lines views n e end = Has (slice_get views n) (λ v. LeavesBy t bad lines v e end)

-- ---- an end, an edge, or a view by which P holds, or there is none
abbrev pub FirstEnd : (P : Option ℕ → Type 0) → Option (Option ℕ) → Type 0
FirstEnd P None = (end : Option ℕ) → ¬ P end
FirstEnd P (Some end) = P end

abbrev pub FirstEdge : (P : (e : ℕ) → Option ℕ → Type 0) → (n : ℕ) → Option Exit → Type 0
FirstEdge P n None = (e : ℕ) (end : Option ℕ) → e < 16 → ¬ P e end
FirstEdge P n (Some exit) = (exit.view ≡ n) × P exit.edge exit.end

abbrev pub FirstView : (P : (n e : ℕ) → Option ℕ → Type 0) → Option Exit → Type 0
FirstView P None = (n e : ℕ) (end : Option ℕ) → e < 16 → ¬ P n e end
FirstView P (Some exit) = P exit.view exit.edge exit.end
