use Rattle.std.proofs.Common.{◌<◌, ℕ, Option, Some, None}
use Rattle.report_path.specs.declared.report.By.TheVariants.{Start}
use Rattle.fact_log.specs.Work.{IsNewView, moved, view}
use Rattle.fact_log.proofs.work.Work.find_by.Given as goal

abbrev pub invariant-loop-first : goal.invariant-loop-first
invariant-loop-first l = (¬ IsNewView l.self (view l.view.component l.view.state l.view.status Start)) × ((w e : ℕ) (body : Option ℕ) → ¬ IsNewView l.self (moved l.view None w e body)) × ((k : ℕ) → k < l.first → (w e : ℕ) (body : Option ℕ) → ¬ IsNewView l.self (moved l.view (Some k) w e body))
