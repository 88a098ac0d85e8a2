use Rattle.std.proofs.Common.{◌-◌}
use Rattle.tag_flow.specs.Turns.{Turn}
use Rattle.tag_flow.specs.Goals.{Below, CellUnder, row_after}
use Rattle.tag_flow.proofs.passing.pass_cells.Given as goal

abbrev pub invariant-loop-register : goal.invariant-loop-register
invariant-loop-register l = Turn l.known (Below (CellUnder l.known l.step.from.method.0 l.step.to.index (row_after l.step.from.method.0 l.step.from.index l.step.change)) l.register) l.fn.state l.state l.changed

abbrev pub decreases-loop-register : goal.decreases-loop-register
decreases-loop-register l = l.step.from.width - l.register
