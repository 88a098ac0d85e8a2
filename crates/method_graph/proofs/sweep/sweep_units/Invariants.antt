use Rattle.std.proofs.Common.{◌≡◌, ◌++◌, ◌≤◌, ◌-◌, length}
use Rattle.method_graph.specs.Sweep.{sweep_of}
use Rattle.method_graph.proofs.Rest.{rest_of}
use Rattle.method_graph.proofs.sweep.sweep_units.Given as goal

abbrev pub invariant-loop-pc : goal.invariant-loop-pc
invariant-loop-pc l =
    (l.sweep.rows ++ rest_of l.units l.pc ≡ sweep_of l.units)
    × (l.sweep.units ≡ length l.units)
    × (l.sweep.reached ≤ l.pc)
    × (l.pc ≤ length l.units)

abbrev pub decreases-loop-pc : goal.decreases-loop-pc
decreases-loop-pc l = length l.units - l.pc
