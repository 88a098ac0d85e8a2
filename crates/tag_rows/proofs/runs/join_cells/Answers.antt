use Rattle.std.proofs.Common.{◌∙◌, arith, refl}
use Rattle.tag_rows.specs.Runs.{no_cell, next_cell}
use Rattle.tag_rows.proofs.runs.join_cells.Goals as goal

pub loop-register-init : goal.loop-register-init
loop-register-init c =
    record { run = no_cell; cells = c.requires.cells; len = refl }

pub loop-register-preserved : goal.loop-register-preserved
loop-register-preserved c =
    let clear = c.requires.clear c.loop-register.register (omega (arith, c.loop-register.auto.register)) (omega (arith, c.loop-register-test.true)) in
    record {
      run = next_cell _ _ _ _ _ c.loop-register.invariant.run (record { first = clear.0; second = clear.1; plain = c.is_kept.ensures c.if-not-is_kept.false }) c.join_cell-changed.ensures.joins;
      cells = c.join_cell-changed.ensures.cells;
      len = c.join_cell-changed.ensures.len ∙ c.loop-register.invariant.len;
    }
