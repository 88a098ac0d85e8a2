use Rattle.solution.proofs.Bits.{one_is}
use Rattle.solution.proofs.words.one.Goals as goal

pub returns : goal.returns
returns c = one_is _ _ _ _ c.requires.entry c.single.ensures c.shifted.ensures
