use Rattle.fact_log.specs.Work.{Keeps}
use Rattle.fact_log.proofs.work.Work.pass_on.Given as goal

abbrev pub invariant-loop-number : goal.invariant-loop-number
invariant-loop-number l = Keeps l.initial.self l.self
