use Rattle.solution.proofs.Facts.{ret_joins}
use Rattle.solution.proofs.solution.Solution.join_ret.Goals as goal

pub returns : goal.returns
returns c = rw (← c.self.view_is) (ret_joins _ _ _ _ _ _ c.or_word.ensures)
