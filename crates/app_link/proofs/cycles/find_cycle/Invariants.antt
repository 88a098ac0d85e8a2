use Rattle.app_link.specs.LinkFaults.{IsAcyclicBelow}
use Rattle.app_link.proofs.cycles.find_cycle.Given as goal

abbrev pub invariant-loop-c : goal.invariant-loop-c
invariant-loop-c l = IsAcyclicBelow l.classes l.c
