use Rattle.std.proofs.Common.{ℕ, ◌<◌, get_or}
use Rattle.cert_line.specs.declared.rows.ViewRow.{ViewRow}
use Rattle.cert_facts.specs.Shape.{FitsView}
use Rattle.cert_facts.proofs.shape.fit_views.Given as goal

abbrev pub invariant-loop-row : goal.invariant-loop-row
invariant-loop-row l = (k : ℕ) (d : ViewRow) → k < l.row-index → FitsView l.subject (get_or l.rows k d)
