use Rattle.std.proofs.Common.{◌*◌}
use Rattle.view_solver.specs.Judged.{AreListed}
use Rattle.view_solver.proofs.judging.list_all.Given as goal

abbrev pub invariant-loop-component : goal.invariant-loop-component
invariant-loop-component l = AreListed l.subject l.lock.0 l.solution (64 * l.component) l.found.items
