use Rattle.std.proofs.Common.{ℕ, sym, ap, ◌∙◌}
use Rattle.std.proofs.lemmas.Result.{err_from_is_err_and}
use Rattle.dex_tables.specs.Reading.{string_in, string_at}
use Rattle.dex_tables.proofs.Below.{rows_below-fault, table_at-rows}
use Rattle.dex_tables.proofs.strings.read_strings.Goals as goal

pub returns-in_err-row : goal.returns-in_err-row
returns-in_err-row c =
    let p = err_from_is_err_and c.from_residual-in_err-row.result c.from_residual-in_err-row.ensures.1 in
    let row = string_in c.args.bytes.now c.args.header.now in
    let same = c.in_err-row.ensures.value ∙ ap (λ (n : ℕ). string_at c.args.bytes.now n c.off_from-off.result) c.loop-i.invariant.total ∙ ap (string_at c.args.bytes.now _) c.off_from-off.ensures in
    rw (p.1, p.2) (table_at-rows c.args.bytes.now _ _ _ row _ c.if-ends_past.ensures
    (rows_below-fault row c.loop-i.i _ _ _ c.loop-i.invariant.rows (sym same) c.loop-i-test.true))
