use Rattle.std.proofs.Common.{ℕ, sym, ap, ◌∙◌}
use Rattle.std.proofs.lemmas.Result.{err_from_is_err_and}
use Rattle.dex_tables.specs.Reading.{class_in, class_at}
use Rattle.dex_tables.proofs.Below.{rows_below-fault, table_at-rows}
use Rattle.dex_tables.proofs.classes.read_classes.Goals as goal

pub returns-in_err-row-clause-rows : goal.returns-in_err-row-clause-rows
returns-in_err-row-clause-rows c =
    let p = err_from_is_err_and c.from_residual-in_err-row.result c.from_residual-in_err-row.ensures.1 in
    let row = class_in c.args.bytes.now c.args.header.now in
    let same = c.in_err-row.ensures.value ∙ ap (λ (n : ℕ). class_at c.args.bytes.now c.args.header.now n c.loop-c.c) (c.len.ensures ∙ c.loop-c.invariant.len) in
    rw (p.1, p.2) (table_at-rows c.args.bytes.now _ _ _ row _ c.if-ends_past.ensures
    (rows_below-fault row c.loop-c.c _ _ _ c.loop-c.invariant.rows (sym same) c.loop-c-test.true))
