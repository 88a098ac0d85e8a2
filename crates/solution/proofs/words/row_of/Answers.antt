use Rattle.solution.proofs.Bits.{row_is}
use Rattle.solution.proofs.words.row_of.Goals as goal

pub returns : goal.returns
returns c = λ t. row_is _ _ t c.requires
