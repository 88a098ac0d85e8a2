use Rattle.std.proofs.Common.{◌<◌, ℕ, Option}
use Rattle.fact_log.specs.Work.{IsNewView, moved}
use Rattle.fact_log.proofs.work.Work.find_mover.Given as goal

abbrev pub invariant-loop-mover : goal.invariant-loop-mover
invariant-loop-mover l = (k : ℕ) → k < l.mover → (e : ℕ) (body : Option ℕ) → ¬ IsNewView l.self (moved l.view l.first k e body)
