use Rattle.std.proofs.Common.{◌+◌, ◌*◌}
use Rattle.view_solver.specs.Reported.{AreReported}
use Rattle.view_solver.proofs.listing.list_component.Given as goal

abbrev pub invariant-loop-callback : goal.invariant-loop-callback
invariant-loop-callback l = AreReported l.subject (4096 * l.component.0 + 512 * l.callback) l.found.items
