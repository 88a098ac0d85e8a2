use Rattle.fact_log.specs.Work.{Keeps}
use Rattle.fact_log.proofs.work.Work.push_at.Given as goal

abbrev pub invariant-loop-status : goal.invariant-loop-status
invariant-loop-status l = Keeps l.initial.self l.self
