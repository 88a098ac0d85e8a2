use Rattle.std.proofs.Common.{arith, length, refl}
use Rattle.std.proofs.lemmas.Option.{slice_get_read}
use Rattle.std.proofs.lemmas.Result.{err_from_is_err_and}
use Rattle.component_list.proofs.BoundLaws.{rows_all, rows_fault}
use Rattle.component_list.proofs.binding.bind_rows.Goals as goal

pub returns-in_err-row : goal.returns-in_err-row
returns-in_err-row c =
    let p = err_from_is_err_and c.from_residual-in_err-row.result c.from_residual-in_err-row.ensures.1 in
    rw (p.1, p.2) (rows_fault c.args.binder.now c.args.listed.now c.loop-i.i c.loop-i.rows.items c.index-listed-i.result c.in_err-row.field-0.0 c.loop-i.invariant (omega arith) (slice_get_read c.args.listed.now (length c.args.listed.now) c.loop-i.i c.index-listed-i.result refl (omega arith) c.index-listed-i.is) c.in_err-row.ensures)

pub returns : goal.returns
returns c = rows_all c.args.binder.now c.args.listed.now c.loop-i.i c.loop-i.rows.items c.loop-i.invariant (omega arith)
