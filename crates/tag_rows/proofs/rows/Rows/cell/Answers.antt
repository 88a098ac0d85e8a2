use Rattle.std.proofs.Common.{◌≡◌, ℕ, ◌<◌, subst, arith}
use Rattle.std.proofs.lemmas.Grind.{common_steps}
use Rattle.app_model.specs.TagTable.{IsTagTable, cell_count, cell_at}
use Rattle.app_model.proofs.Cells.{cell_below}
use Rattle.tag_rows.proofs.rows.Rows.cell.Goals as goal

pub returns-in-Some-clause-fits : goal.returns-in-Some-clause-fits
unfolding cell_at
returns-in-Some-clause-fits c =
    let sound : IsTagTable c.args.self.now = rw (← c.self.view_is) c.self.invariant in
    let same : cell_at c.args.self.now c.args.method.0 c.args.place ≡ c.unwrap_or.result = grind (arith, common_steps) in
    subst (λ (n : ℕ). n < cell_count) same (cell_below _ _ _ sound)
