use Rattle.solver.specs.Turns.{Each}
use Rattle.view_solver.specs.Views.{Moved, Watched}
use Rattle.view_solver.proofs.moving.tell_each.Given as goal

abbrev pub invariant-loop-component : goal.invariant-loop-component
invariant-loop-component l = Moved l.subject l.lock.0 (Each (Watched l.moved l.mover.0) l.component) l.fn.solution l.solution l.changed
