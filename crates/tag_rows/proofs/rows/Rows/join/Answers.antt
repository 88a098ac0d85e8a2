use Rattle.std.proofs.Common.{◌≡◌, ◌<◌, List, ℕ, map, slice_set, ap, ◌∙◌, sym, length, get_or, []}
use Rattle.std.specs.Vec.{with_items}
use Rattle.app_model.specs.TagTable.{TagParts}
use Rattle.tag_rows.proofs.Cells.{row_in}
use Rattle.tag_rows.proofs.Running.{joins_in, row_items, row_table, rows_wrote, with_row}
use Rattle.tag_rows.proofs.rows.Rows.join.Goals as goal

-- the rows that the fields give after the join
same_table : (c : goal.After-self-1) → record { registers = c.self.inside.registers.items; cells = map (λ v. v.items) (slice_set c.self.inside.cells.items c.args.method.0 (with_items c.index_mut.result.now c.join_cell.new.cells)) }
    ≡ with_row c.args.self.now c.args.method.0 c.join_cell.new.cells
same_table c = rw (← c.self.view_is)
    (ap (λ (cells : List (List ℕ)). let t : TagParts = record { registers = c.self.inside.registers.items; cells = cells } in t)
    (rows_wrote c.self.inside.cells.items c.args.method.0 c.index_mut.result.now c.join_cell.new.cells (c.join_cell.ensures.len ∙ ap length c.as_mut_slice.ensures.value)))

pub invariant_of-self : goal.invariant_of-self
invariant_of-self c =
    rw (same_table c) (row_table c.args.self.now c.args.method.0 c.join_cell.new.cells (rw (← c.self.view_is) c.self.invariant) c.join_cell.ensures.cells)

pub returns : goal.returns
returns c =
    rw (same_table c) (
    let t = c.args.self.now in
    let m = c.args.method.0 in
    let there : m < length t.cells = row_in t m c.args.place c.requires.place in
    let whole : get_or t.cells m [] ≡ c.as_mut_slice.result.now =
    rw (← c.self.view_is) (row_items c.self.inside.cells.items m c.index_mut.result.now c.index_mut.ensures.value (rw (← c.self.view_is) at there)) ∙ sym c.as_mut_slice.ensures.value in
    joins_in t m there c.args.place c.args.tag c.join_cell.new.cells c.join_cell.result c.requires.place (rw (whole, ← c.cell.ensures.back) c.join_cell.ensures.joins))
