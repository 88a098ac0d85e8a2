use Rattle.std.proofs.Common.{sym}
use Rattle.std.proofs.lemmas.Result.{err_from_is_err_and}
use Rattle.dex_tables.specs.Reading.{type_in}
use Rattle.dex_tables.proofs.Below.{rows_below-fault, table_at-rows}
use Rattle.dex_tables.proofs.types.read_types.Goals as goal

pub returns-in_err-row : goal.returns-in_err-row
returns-in_err-row c =
    let p = err_from_is_err_and c.from_residual-in_err-row.result c.from_residual-in_err-row.ensures.1 in
    let row = type_in c.args.bytes.now c.args.header.now in
    rw (p.1, p.2) (table_at-rows c.args.bytes.now _ _ _ row _ c.if-ends_past.ensures
    (rows_below-fault row c.loop-t.t _ _ _ c.loop-t.invariant (sym c.in_err-row.ensures) c.loop-t-test.true))
