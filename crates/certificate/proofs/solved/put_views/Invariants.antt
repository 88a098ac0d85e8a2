use Rattle.std.proofs.Common.{◌≡◌, ◌++◌, map}
use Rattle.std.specs.List.{filter}
use Rattle.solution.specs.Facts.{holds}
use Rattle.certificate.specs.Solved.{has_status, view_row, numbers_below}
use Rattle.certificate.proofs.solved.put_views.Given as goal

abbrev pub invariant-loop-state : goal.invariant-loop-state
invariant-loop-state l = l.rows.items ≡ l.initial.rows.items ++ filter has_status (map (view_row (holds l.solution) l.component.0) (numbers_below l.state))
