use Rattle.std.proofs.Common.{◌+◌, ◌*◌}
use Rattle.view_solver.specs.Reported.{AreMasksTo}
use Rattle.view_solver.proofs.listing.push_masks.Given as goal

abbrev pub invariant-loop-callback : goal.invariant-loop-callback
invariant-loop-callback l = AreMasksTo l.subject l.lock.0 l.solution (8 * l.component.0 + l.callback) l.masks.items
