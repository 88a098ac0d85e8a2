use Rattle.std.proofs.Common.{map}
use Rattle.tag_flow.specs.State.{AreRows}
use Rattle.tag_flow.proofs.building.make_rows.Given as goal

abbrev pub invariant-loop-method : goal.invariant-loop-method
invariant-loop-method l = AreRows l.known l.method (map (λ v. v.items) l.rows.items)
