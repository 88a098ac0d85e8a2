use Rattle.std.proofs.Common.{slice_index, sym}
use Rattle.flow_model.proofs.MaskLaws.{IsImageBelow-has}
use Rattle.flow_model.proofs.masks.with_status.Goals as goal

pub returns-then-has_status : goal.returns-then-has_status
returns-then-has_status c = IsImageBelow-has (slice_index c.args.column.now) c.args.mask c.args.s c.args.image (sym c.if-has_status.ensures) c.requires.below
