use Rattle.std.proofs.Common.{◌<◌, ℕ}
use Rattle.report_path.specs.declared.report.By.{By}
use Rattle.fact_log.specs.Work.{IsNewView, view}
use Rattle.fact_log.proofs.work.Work.find_seen.Given as goal

abbrev pub invariant-loop-status : goal.invariant-loop-status
invariant-loop-status l = (k : ℕ) → k < l.status → (by : By) → ¬ IsNewView l.self (view l.component l.state k by)
