use Rattle.std.proofs.Common.{◌+◌, ◌*◌}
use Rattle.view_solver.specs.Reported.{AreReported}
use Rattle.view_solver.proofs.listing.list_lock.Given as goal

abbrev pub invariant-loop-status : goal.invariant-loop-status
invariant-loop-status l = AreReported l.subject (4096 * l.component.0 + 512 * l.callback + 8 * l.lock.0 + l.status) l.found.items
