use Rattle.std.proofs.Common.{sym}
use Rattle.std.proofs.lemmas.Result.{err_from_is_err_and}
use Rattle.dex_tables.specs.Reading.{method_in}
use Rattle.dex_tables.proofs.Below.{rows_below-fault, table_at-rows}
use Rattle.dex_tables.proofs.methods.read_methods.Goals as goal

pub returns-in_err-row : goal.returns-in_err-row
returns-in_err-row c =
    let p = err_from_is_err_and c.from_residual-in_err-row.result c.from_residual-in_err-row.ensures.1 in
    let row = method_in c.args.bytes.now c.args.header.now in
    rw (p.1, p.2) (table_at-rows c.args.bytes.now _ _ _ row _ c.if-ends_past.ensures
    (rows_below-fault row c.loop-m.m _ _ _ c.loop-m.invariant (sym c.in_err-row.ensures) c.loop-m-test.true))
