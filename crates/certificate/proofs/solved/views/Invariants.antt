use Rattle.std.proofs.Common.{◌≡◌}
use Rattle.std.specs.Prelude.{flat_map}
use Rattle.solution.specs.Facts.{holds}
use Rattle.certificate.specs.Solved.{component_views, numbers_below}
use Rattle.certificate.proofs.solved.views.Given as goal

abbrev pub invariant-loop-component : goal.invariant-loop-component
invariant-loop-component l = l.rows.items ≡ flat_map (component_views (holds l.solution)) (numbers_below l.component)
