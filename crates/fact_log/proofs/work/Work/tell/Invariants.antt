use Rattle.fact_log.specs.Work.{Keeps}
use Rattle.fact_log.proofs.work.Work.tell.Given as goal

abbrev pub invariant-loop : goal.invariant-loop
invariant-loop l = Keeps l.initial.self l.self
