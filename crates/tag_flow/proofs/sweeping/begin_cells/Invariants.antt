use Rattle.tag_flow.specs.Turns.{Turn}
use Rattle.tag_flow.specs.Goals.{Below, CellUnder, begun_row}
use Rattle.tag_flow.proofs.sweeping.begin_cells.Given as goal

abbrev pub invariant-loop-register : goal.invariant-loop-register
invariant-loop-register l = Turn l.known (Below (CellUnder l.known l.to.method.0 0 (begun_row l.known l.to.method.0)) l.register) l.fn.state l.state l.changed
