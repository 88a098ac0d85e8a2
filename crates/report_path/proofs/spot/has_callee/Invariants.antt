use Rattle.std.proofs.Common.{◌≡◌}
use Rattle.std.specs.Prelude.{Some, slice_get}
use Rattle.report_path.proofs.Tests.{NoneBelow}
use Rattle.report_path.proofs.spot.has_callee.Given as goal

abbrev pub invariant-loop-k : goal.invariant-loop-k
invariant-loop-k l = NoneBelow (λ k. slice_get l.callees k ≡ Some (record { 0 = l.method })) l.k
