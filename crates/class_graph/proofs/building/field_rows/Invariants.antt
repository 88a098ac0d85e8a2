use Rattle.class_graph.specs.Built.{AreFields}
use Rattle.class_graph.proofs.building.field_rows.Given as goal

abbrev pub invariant-loop-f : goal.invariant-loop-f
invariant-loop-f l = AreFields l.app l.f l.members
