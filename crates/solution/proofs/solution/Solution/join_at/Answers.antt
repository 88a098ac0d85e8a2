use Rattle.solution.proofs.Facts.{at_joins}
use Rattle.solution.proofs.solution.Solution.join_at.Goals as goal

pub returns : goal.returns
returns c = rw (← c.self.view_is) (at_joins _ _ _ _ _ _ _ c.or_word.ensures)
