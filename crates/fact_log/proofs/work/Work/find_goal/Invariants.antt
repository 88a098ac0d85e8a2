use Rattle.std.proofs.Common.{◌<◌, ℕ}
use Rattle.report_path.specs.declared.goal.Goal.TheVariants.{Before, Returned, Thrown}
use Rattle.fact_log.specs.declared.log.Why.{Why}
use Rattle.fact_log.specs.Work.{IsNewLine, line}
use Rattle.fact_log.proofs.work.Work.find_goal.Given as goal

abbrev pub invariant-loop-index : goal.invariant-loop-index
invariant-loop-index l = ((e s : ℕ) (why : Why) → ¬ IsNewLine l.self (line l.method e Returned s why)) × ((e s : ℕ) (why : Why) → ¬ IsNewLine l.self (line l.method e Thrown s why)) × ((k : ℕ) → k < l.index → (e s : ℕ) (why : Why) → ¬ IsNewLine l.self (line l.method e (Before k) s why))
