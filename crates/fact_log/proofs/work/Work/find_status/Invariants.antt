use Rattle.std.proofs.Common.{◌<◌, ℕ}
use Rattle.fact_log.specs.declared.log.Why.{Why}
use Rattle.fact_log.specs.Work.{IsNewLine, line}
use Rattle.fact_log.proofs.work.Work.find_status.Given as goal

abbrev pub invariant-loop-status : goal.invariant-loop-status
invariant-loop-status l = (k : ℕ) → k < l.status → (why : Why) → ¬ IsNewLine l.self (line l.method l.entry l.goal k why)
