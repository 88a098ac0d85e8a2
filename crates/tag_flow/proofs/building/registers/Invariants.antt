use Rattle.std.proofs.Common.{◌≡◌, take}
use Rattle.tag_flow.specs.Known.{registers_of}
use Rattle.tag_flow.proofs.building.registers.Given as goal

abbrev pub invariant-loop-method : goal.invariant-loop-method
invariant-loop-method l = l.registers.items ≡ take l.method (registers_of l.app)
