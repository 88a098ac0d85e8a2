use Rattle.std.proofs.Common.{◌<◌, ℕ}
use Rattle.report_path.specs.declared.goal.Goal.{Goal}
use Rattle.fact_log.specs.declared.log.Why.{Why}
use Rattle.fact_log.specs.Work.{IsNewLine, line}
use Rattle.fact_log.proofs.work.Work.find_line.Given as goal

abbrev pub invariant-loop-method : goal.invariant-loop-method
invariant-loop-method l = (k : ℕ) → k < l.method → (goal : Goal) (e s : ℕ) (why : Why) → ¬ IsNewLine l.self (line k e goal s why)
