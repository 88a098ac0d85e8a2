use Rattle.std.proofs.Common.{◌<◌, ℕ}
use Rattle.report_path.specs.declared.report.By.{By}
use Rattle.fact_log.specs.Work.{IsNewView, view}
use Rattle.fact_log.proofs.work.Work.find_state.Given as goal

abbrev pub invariant-loop-state : goal.invariant-loop-state
invariant-loop-state l = (k : ℕ) → k < l.state → (s : ℕ) (by : By) → ¬ IsNewView l.self (view l.component k s by)
