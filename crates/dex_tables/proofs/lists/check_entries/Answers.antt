use Rattle.std.proofs.Common.{ℕ, sym, ap, ◌∙◌}
use Rattle.dex_tables.specs.Reading.{named}
use Rattle.dex_tables.specs.Rows.{list_entry}
use Rattle.std.proofs.lemmas.Result.{err_from_is_err_and}
use Rattle.dex_tables.proofs.Below.{rows_below-fault}
use Rattle.dex_tables.proofs.lists.check_entries.Goals as goal

pub returns-in_err-row_named : goal.returns-in_err-row_named
returns-in_err-row_named c =
    let p = err_from_is_err_and c.from_residual.result c.from_residual.ensures.1 in
    let same = c.in_err-row_named.ensures ∙ ap (named c.args.by.table c.args.by.row c.args.by.types) (c.from.ensures ∙ c.entry_from.ensures) in
    rw (p.1, p.2) (rows_below-fault (λ (k : ℕ). named c.args.by.table c.args.by.row c.args.by.types (list_entry c.args.bytes.now c.args.off k)) c.loop-k.k _ _ _ c.loop-k.invariant (sym same) c.loop-k-test.true)
