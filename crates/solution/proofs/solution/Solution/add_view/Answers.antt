use Rattle.solution.proofs.Facts.{one_adds}
use Rattle.solution.proofs.solution.Solution.add_view.Goals as goal

pub returns-clause-adds : goal.returns-clause-adds
returns-clause-adds c = one_adds _ _ _ _ _ _ _ c.requires.state c.one.ensures c.join_view.ensures
