use Rattle.std.proofs.Common.{◌+◌, ◌*◌}
use Rattle.view_solver.specs.Reported.{AreReported}
use Rattle.view_solver.proofs.listing.list_callback.Given as goal

abbrev pub invariant-loop-lock : goal.invariant-loop-lock
invariant-loop-lock l = AreReported l.subject (4096 * l.component.0 + 512 * l.callback + 8 * l.lock) l.found.items
