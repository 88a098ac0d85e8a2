use Rattle.std.proofs.Common.{◌≡◌}
use Rattle.solution.specs.Facts.{holds}
use Rattle.certificate.specs.Solved.{masks_of}
use Rattle.certificate.proofs.solved.masks.Given as goal

abbrev pub invariant-loop-index : goal.invariant-loop-index
invariant-loop-index l = l.masks.items ≡ masks_of (holds l.solution) l.code.method.0 l.index l.entry
