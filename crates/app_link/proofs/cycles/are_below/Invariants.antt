use Rattle.std.proofs.Common.{◌≡◌, ◌<◌, ℕ, Some, slice_get, slice_index}
use Rattle.ns_base.specs.declared.rows.TypeNo.{TypeNo}
use Rattle.app_link.proofs.cycles.are_below.Given as goal

abbrev pub invariant-loop-i : goal.invariant-loop-i
invariant-loop-i l = (k : ℕ) (t : TypeNo) → k < l.i → slice_get l.list k ≡ Some t → slice_index l.ranks t.0 < l.limit
