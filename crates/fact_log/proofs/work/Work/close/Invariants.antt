use Rattle.solution.specs.Facts.{facts_room}
use Rattle.fact_log.specs.Work.{Keeps}
use Rattle.fact_log.proofs.work.Work.close.Given as goal

abbrev pub invariant-loop : goal.invariant-loop
invariant-loop l = Keeps l.initial.self l.self

abbrev pub decreases-loop : goal.decreases-loop
decreases-loop l = facts_room l.self.known
