use Rattle.std.proofs.Common.{◌<◌, ℕ}
use Rattle.report_path.specs.declared.report.By.{By}
use Rattle.fact_log.specs.Work.{IsNewView, view}
use Rattle.fact_log.proofs.work.Work.find_view.Given as goal

abbrev pub invariant-loop-component : goal.invariant-loop-component
invariant-loop-component l = (k : ℕ) → k < l.component → (q s : ℕ) (by : By) → ¬ IsNewView l.self (view k q s by)
