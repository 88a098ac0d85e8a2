use Rattle.solution.proofs.Facts.{ret_is}
use Rattle.solution.proofs.solution.Solution.ret_word.Goals as goal

pub returns : goal.returns
returns c = λ e s. rw (← c.self.view_is) (ret_is _ _ e s _ c.word.ensures.value)
