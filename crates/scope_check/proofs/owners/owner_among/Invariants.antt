use Rattle.std.proofs.Common.{◌≡◌, ◌<◌, ℕ, Some, false, slice_get}
use Rattle.app_model.specs.Components.{ComponentParts}
use Rattle.flow_model.specs.Breaks.{may_own}
use Rattle.scope_check.proofs.owners.owner_among.Given as goal

abbrev pub invariant-loop-c : goal.invariant-loop-c
invariant-loop-c l = (k : ℕ) (component : ComponentParts) → k < l.c → slice_get l.rows k ≡ Some component → may_own l.app l.field component ≡ false
