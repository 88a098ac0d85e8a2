use Rattle.std.proofs.Common.{◌<◌, ℕ, Some, None}
use Rattle.fact_log.specs.Work.{IsNewView, moved}
use Rattle.fact_log.proofs.work.Work.find_body.Given as goal

abbrev pub invariant-loop-number : goal.invariant-loop-number
invariant-loop-number l = (¬ IsNewView l.self (moved l.view l.first l.mover l.edge None)) × ((k : ℕ) → k < l.number → ¬ IsNewView l.self (moved l.view l.first l.mover l.edge (Some k)))
