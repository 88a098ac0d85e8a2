use Rattle.std.proofs.Common.{◌<◌, ℕ, Option}
use Rattle.fact_log.specs.Work.{IsNewView, moved}
use Rattle.fact_log.proofs.work.Work.find_edge.Given as goal

abbrev pub invariant-loop-edge : goal.invariant-loop-edge
invariant-loop-edge l = (k : ℕ) → k < l.edge → (body : Option ℕ) → ¬ IsNewView l.self (moved l.view l.first l.mover k body)
