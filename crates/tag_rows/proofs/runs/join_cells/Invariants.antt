use Rattle.std.proofs.Common.{◌≡◌, length}
use Rattle.tag_rows.specs.Runs.{AreCells, RunIn}
use Rattle.tag_rows.proofs.runs.join_cells.Given as goal

abbrev pub invariant-loop-register : goal.invariant-loop-register
invariant-loop-register l = record {
  run : RunIn l.pair l.fn.start l.fn.cells l.register l.cells l.changed;
  cells : AreCells l.cells;
  len : length l.cells ≡ length l.fn.cells;
}
