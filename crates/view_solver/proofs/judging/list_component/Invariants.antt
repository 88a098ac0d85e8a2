use Rattle.std.proofs.Common.{◌+◌, ◌*◌}
use Rattle.view_solver.specs.Judged.{AreListed}
use Rattle.view_solver.proofs.judging.list_component.Given as goal

abbrev pub invariant-loop-callback : goal.invariant-loop-callback
invariant-loop-callback l = AreListed l.subject l.lock.0 l.solution (64 * l.component.0 + 8 * l.callback) l.found.items
