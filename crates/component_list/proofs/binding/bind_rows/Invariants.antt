use Rattle.std.proofs.Common.{◌≡◌, Ok, slice_get}
use Rattle.ns_base.specs.Steps.{rows_below}
use Rattle.component_list.specs.Binding.{bound_at}
use Rattle.component_list.proofs.binding.bind_rows.Given as goal

abbrev pub invariant-loop-i : goal.invariant-loop-i
invariant-loop-i l = rows_below (λ k. bound_at l.binder k (slice_get l.listed k)) l.i ≡ Ok l.rows.items
