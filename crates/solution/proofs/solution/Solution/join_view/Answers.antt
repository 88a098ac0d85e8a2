use Rattle.solution.proofs.Facts.{view_joins}
use Rattle.solution.proofs.solution.Solution.join_view.Goals as goal

pub returns : goal.returns
returns c = rw (← c.self.view_is) (view_joins _ _ _ _ _ _ c.or_word.ensures)
