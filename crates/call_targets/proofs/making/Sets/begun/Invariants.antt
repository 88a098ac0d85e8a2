use Rattle.std.proofs.Common.{◌≡◌, false, replicate}
use Rattle.app_model.specs.CallGraph.{no_targets}
use Rattle.call_targets.proofs.making.Sets.begun.Given as goal

abbrev pub invariant-loop-place : goal.invariant-loop-place
invariant-loop-place l = record {
  rows : l.rows.items ≡ replicate l._place no_targets;
  made : l.made.items ≡ replicate l._place false;
}
