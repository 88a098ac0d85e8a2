use Rattle.std.proofs.Common.{◌<◌, ℕ}
use Rattle.fact_log.specs.declared.log.Why.{Why}
use Rattle.fact_log.specs.Work.{IsNewLine, line}
use Rattle.fact_log.proofs.work.Work.find_entry.Given as goal

abbrev pub invariant-loop-entry : goal.invariant-loop-entry
invariant-loop-entry l = (k : ℕ) → k < l.entry → (s : ℕ) (why : Why) → ¬ IsNewLine l.self (line l.method k l.goal s why)
