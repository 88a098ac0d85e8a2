use Rattle.std.proofs.Common.{[], arith}
use Rattle.std.proofs.lemmas.Result.{err_from_is_err_and}
use Rattle.toml.specs.View.{array_view}
use Rattle.ns_base.proofs.StepLaws.{reached_end}
use Rattle.component_list.specs.Reading.{add_row, is_memory, item_count}
use Rattle.component_list.proofs.reading.add_rows.Goals as goal

pub returns-in_err-add_row-clause-exact : goal.returns-in_err-add_row-clause-exact
returns-in_err-add_row-clause-exact c =
    let p = err_from_is_err_and c.from_residual.result c.from_residual.ensures.1 in
    rw (p.1, p.2) (reached_end (is_memory c.in_err-add_row.field-0.0) (add_row (array_view c.args.components.now)) [] c.loop-place.place
    (item_count (array_view c.args.components.now)) c.loop-place.rows c.in_err-add_row.field-0.0 c.loop-place.invariant (omega arith) c.in_err-add_row.ensures)
