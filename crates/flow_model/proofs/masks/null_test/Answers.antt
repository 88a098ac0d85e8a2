use Rattle.flow_model.proofs.MaskLaws.{IsCut-and}
use Rattle.flow_model.proofs.masks.null_test.Goals as goal

pub returns-clause-zero : goal.returns-clause-zero
returns-clause-zero c = IsCut-and _ _

pub returns-clause-nonzero : goal.returns-clause-nonzero
returns-clause-nonzero c = IsCut-and _ _
