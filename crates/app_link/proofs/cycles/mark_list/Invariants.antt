use Rattle.std.proofs.Common.{◌≡◌, ◌<◌, ℕ, Some, slice_get, Contains}
use Rattle.ns_base.specs.declared.rows.TypeNo.{TypeNo}
use Rattle.app_link.specs.Cycles.{Marks, IsMarked}
use Rattle.app_link.proofs.cycles.mark_list.Given as goal

abbrev pub invariant-loop-i : goal.invariant-loop-i
invariant-loop-i l = record {
  marks : Marks l.initial.marks.items l.marks.items l.changed (λ u. Contains l.list (record { 0 = u }));
  marked : (k : ℕ) (t : TypeNo) → k < l.i → slice_get l.list k ≡ Some t → IsMarked l.marks.items t.0;
}
