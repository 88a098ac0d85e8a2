use Rattle.fact_log.specs.Work.{Keeps}
use Rattle.fact_log.proofs.work.Work.begin.Given as goal

abbrev pub invariant-loop-component : goal.invariant-loop-component
invariant-loop-component l = Keeps l.initial.self l.self
