use Rattle.std.proofs.Common.{◌≡◌, ◌<◌, List, ℕ, map, slice_set, ap, ◌∙◌, sym, arith, length, get_or, []}
use Rattle.std.specs.Vec.{with_items}
use Rattle.app_model.specs.TagTable.{TagParts}
use Rattle.tag_rows.proofs.Cells.{row_in}
use Rattle.tag_rows.proofs.Running.{row_items, row_table, rows_wrote, runs_in, with_row}
use Rattle.tag_rows.proofs.rows.Rows.join_run.Goals as goal

-- the rows that the fields give after the run
same_table : (c : goal.After-self-1) → record { registers = c.self.inside.registers.items; cells = map (λ v. v.items) (slice_set c.self.inside.cells.items c.args.method.0 (with_items c.index_mut.result.now c.join_run.new.cells)) }
    ≡ with_row c.args.self.now c.args.method.0 c.join_run.new.cells
same_table c = rw (← c.self.view_is)
    (ap (λ (cells : List (List ℕ)). let t : TagParts = record { registers = c.self.inside.registers.items; cells = cells } in t)
    (rows_wrote c.self.inside.cells.items c.args.method.0 c.index_mut.result.now c.join_run.new.cells (c.join_run.ensures.len ∙ ap length c.as_mut_slice.ensures.value)))

pub invariant_of-self : goal.invariant_of-self
invariant_of-self c =
    rw (same_table c) (row_table c.args.self.now c.args.method.0 c.join_run.new.cells (rw (← c.self.view_is) c.self.invariant) c.join_run.ensures.cells)

pub returns-clause-runs : goal.returns-clause-runs
returns-clause-runs c =
    rw (same_table c) (
    let t = c.args.self.now in
    let m = c.args.method.0 in
    let some : 0 < length (get_or t.cells m []) = omega (arith, c.requires.to, c.requires.some) in
    let there : m < length t.cells = row_in t m 0 some in
    let whole : get_or t.cells m [] ≡ c.as_mut_slice.result.now =
    rw (← c.self.view_is) (row_items c.self.inside.cells.items m c.index_mut.result.now c.index_mut.ensures.value (rw (← c.self.view_is) at there)) ∙ sym c.as_mut_slice.ensures.value in
    runs_in t m there c.args.pair.now c.args.start c.join_run.result.end c.join_run.new.cells c.join_run.result.changed c.join_run.ensures.end c.requires.to (rw whole c.join_run.ensures.run))
