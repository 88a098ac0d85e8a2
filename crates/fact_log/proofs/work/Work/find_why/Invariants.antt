use Rattle.std.proofs.Common.{◌<◌, ℕ, Option}
use Rattle.fact_log.specs.declared.log.Why.TheVariants.{Entered}
use Rattle.fact_log.specs.Work.{IsNewLine, led, line}
use Rattle.fact_log.proofs.work.Work.find_why.Given as goal

abbrev pub invariant-loop-from : goal.invariant-loop-from
invariant-loop-from l = (¬ IsNewLine l.self (line l.line.method l.line.entry l.line.goal l.line.status Entered)) × ((k : ℕ) → k < l.from → (end : Option ℕ) → ¬ IsNewLine l.self (led l.line k end))
