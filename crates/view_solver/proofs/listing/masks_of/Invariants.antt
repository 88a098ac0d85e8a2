use Rattle.std.proofs.Common.{◌*◌}
use Rattle.view_solver.specs.Reported.{AreMasksTo}
use Rattle.view_solver.proofs.listing.masks_of.Given as goal

abbrev pub invariant-loop-component : goal.invariant-loop-component
invariant-loop-component l = AreMasksTo l.subject l.lock.0 l.solution (8 * l.component) l.masks.items
