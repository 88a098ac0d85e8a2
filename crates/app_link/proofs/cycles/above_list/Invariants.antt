use Rattle.std.proofs.Common.{◌≡◌, ◌≤◌, ◌<◌, ◌^◌, ℕ, Some, slice_get}
use Rattle.ns_base.specs.declared.rows.TypeNo.{TypeNo}
use Rattle.app_link.proofs.cycles.above_list.Given as goal

abbrev pub invariant-loop-i : goal.invariant-loop-i
invariant-loop-i l = (l.bound ≤ l.above) × (l.above ≤ 2 ^ 32) × ((k : ℕ) (t : TypeNo) → k < l.i → slice_get l.list k ≡ Some t → t.0 < l.above)
