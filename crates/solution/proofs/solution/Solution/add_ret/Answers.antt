use Rattle.solution.proofs.Facts.{one_adds}
use Rattle.solution.proofs.solution.Solution.add_ret.Goals as goal

pub returns-clause-adds : goal.returns-clause-adds
returns-clause-adds c = one_adds _ _ _ _ _ _ _ c.requires.entry c.one.ensures c.join_ret.ensures
