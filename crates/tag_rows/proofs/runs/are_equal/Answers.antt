use Rattle.std.proofs.lemmas.Bool.Decides.{Decides-eqb}
use Rattle.std.proofs.lemmas.Slice.Eq.{slice_eq-Decides}
use Rattle.tag_rows.proofs.Running.{equal_cells}
use Rattle.tag_rows.proofs.runs.are_equal.Goals as goal

pub returns : goal.returns
returns c =
    λ same. equal_cells _ _ _ _ _ ((slice_eq-Decides Decides-eqb _ _ _ c.eq.ensures).0 same)
