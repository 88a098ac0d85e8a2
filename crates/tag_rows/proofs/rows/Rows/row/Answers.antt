use Rattle.std.proofs.Common.{◌≡◌, ◌<◌, ◌∙◌, ◌+◌, arith, get_or, length, List, ℕ, map, subst, sym, []}
use Rattle.std.proofs.lemmas.List.{length-map}
use Rattle.std.specs.List.{slice_range}
use Rattle.app_model.specs.TagTable.{row_at, tag_of}
use Rattle.tag_rows.proofs.Cells.{row_in}
use Rattle.tag_rows.proofs.Running.{items_of, row_cells, row_items}
use Rattle.tag_rows.proofs.rows.Rows.row.Goals as goal

pub index-requires : goal.index-requires
index-requires c =
    let there : c.args.method.0 < length (map items_of c.self.inside.cells.items) = rw (← c.self.view_is) at (row_in c.args.self.now c.args.method.0 c.args.start (omega (arith, c.requires.within, c.requires.some))) in
    omega (arith, there, length-map c.self.inside.cells.items items_of, c.self.inside.cells.ok.0)

pub returns : goal.returns
returns c = λ index width start.
    (let t = c.args.self.now in
    let m = c.args.method.0 in
    let there : m < length t.cells = row_in t m c.args.start (omega (arith, c.requires.within, c.requires.some)) in
    let whole : get_or t.cells m [] ≡ c.deref.result.now =
    rw (← c.self.view_is) (row_items c.self.inside.cells.items m c.index.result.now c.index.ensures (rw (← c.self.view_is) at there)) ∙ sym c.deref.ensures.value in
    subst (λ (cells : List ℕ). map tag_of (slice_range cells c.args.start (c.args.start + c.args.width)) ≡ row_at t m index) whole
    (rw start (row_cells t m index c.args.width width (rw start at c.requires.within))))
