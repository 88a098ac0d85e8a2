use Rattle.std.proofs.Common.{◌≡◌, None, replicate}
use Rattle.app_model.proofs.hierarchy.no_classes.Given as goal

abbrev pub invariant-loop-place : goal.invariant-loop-place
invariant-loop-place l = l.index.items ≡ replicate l._place None
