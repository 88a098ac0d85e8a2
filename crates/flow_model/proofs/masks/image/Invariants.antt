use Rattle.std.proofs.Common.{slice_index}
use Rattle.flow_model.specs.Images.{IsImageBelow}
use Rattle.flow_model.proofs.masks.image.Given as goal

abbrev pub invariant-loop-s : goal.invariant-loop-s
invariant-loop-s l = IsImageBelow (slice_index l.column) l.mask l.s l.image
