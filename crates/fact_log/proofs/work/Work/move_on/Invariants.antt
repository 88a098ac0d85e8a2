use Rattle.fact_log.specs.Work.{Keeps}
use Rattle.fact_log.proofs.work.Work.move_on.Given as goal

abbrev pub invariant-loop-edge : goal.invariant-loop-edge
invariant-loop-edge l = Keeps l.initial.self l.self
