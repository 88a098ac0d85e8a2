use Rattle.solution.proofs.Facts.{at_is}
use Rattle.solution.proofs.solution.Solution.at_word.Goals as goal

pub returns : goal.returns
returns c = λ e s. rw (← c.self.view_is) (at_is _ _ _ e s _ c.word.ensures.value)
