use Rattle.std.proofs.Common.{◌<◌, ℕ, Some, None}
use Rattle.fact_log.specs.Work.{IsNewLine, led}
use Rattle.fact_log.proofs.work.Work.led_by.Given as goal

abbrev pub invariant-loop-number : goal.invariant-loop-number
invariant-loop-number l = (¬ IsNewLine l.self (led l.line l.from None)) × ((k : ℕ) → k < l.number → ¬ IsNewLine l.self (led l.line l.from (Some k)))
