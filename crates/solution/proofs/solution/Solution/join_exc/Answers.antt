use Rattle.solution.proofs.Facts.{exc_joins}
use Rattle.solution.proofs.solution.Solution.join_exc.Goals as goal

pub returns : goal.returns
returns c = rw (← c.self.view_is) (exc_joins _ _ _ _ _ _ c.or_word.ensures)
