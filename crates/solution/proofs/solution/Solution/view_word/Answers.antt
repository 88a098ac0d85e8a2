use Rattle.solution.proofs.Facts.{view_is}
use Rattle.solution.proofs.solution.Solution.view_word.Goals as goal

pub returns : goal.returns
returns c = λ e s. rw (← c.self.view_is) (view_is _ _ e s _ c.word.ensures.value)
