use Rattle.solution.proofs.Facts.{exc_is}
use Rattle.solution.proofs.solution.Solution.exc_word.Goals as goal

pub returns : goal.returns
returns c = λ e s. rw (← c.self.view_is) (exc_is _ _ e s _ c.word.ensures.value)
