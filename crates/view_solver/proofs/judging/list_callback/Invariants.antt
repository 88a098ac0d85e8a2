use Rattle.std.proofs.Common.{◌+◌, ◌*◌}
use Rattle.view_solver.specs.Judged.{AreListed}
use Rattle.view_solver.proofs.judging.list_callback.Given as goal

abbrev pub invariant-loop-status : goal.invariant-loop-status
invariant-loop-status l = AreListed l.subject l.lock.0 l.solution (64 * l.component.0 + 8 * l.callback + l.status) l.found.items
