use Rattle.tag_flow.specs.Turns.{Turn}
use Rattle.tag_flow.specs.Goals.{Below, CellUnder, entering_row}
use Rattle.tag_flow.proofs.calling.enter_cells.Given as goal

abbrev pub invariant-loop-register : goal.invariant-loop-register
invariant-loop-register l = Turn l.known (Below (CellUnder l.known l.to.method.0 0 (entering_row l.known l.from.method.0 l.from.index l.to.method.0 l.handing.by l.handing.args)) l.register) l.fn.state l.state l.changed
