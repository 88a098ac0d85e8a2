use Rattle.class_graph.specs.Built.{AreMethods}
use Rattle.class_graph.proofs.building.method_rows.Given as goal

abbrev pub invariant-loop-m : goal.invariant-loop-m
invariant-loop-m l = AreMethods l.app l.m l.members
