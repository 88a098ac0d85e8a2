use Rattle.std.proofs.Common.{◌≡◌, map, take}
use Rattle.dalvik.specs.Naming.{naming_of}
use Rattle.app_rows.specs.Linked.{operand_of}
use Rattle.app_rows.proofs.bodies.operands_in.Given as goal

abbrev pub invariant-loop-i : goal.invariant-loop-i
invariant-loop-i l = l.operands.items ≡ map (λ place. operand_of l.rows (naming_of place.ins)) (take l.i l.body.places)
