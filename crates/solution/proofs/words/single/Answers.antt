use Rattle.solution.proofs.Bits.{single_is}
use Rattle.solution.proofs.words.single.Goals as goal

pub returns : goal.returns
returns c = single_is _ c.requires
