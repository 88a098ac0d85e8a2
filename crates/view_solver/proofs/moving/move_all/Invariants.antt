use Rattle.solver.specs.Turns.{Each}
use Rattle.view_solver.specs.Views.{Moved, ComponentDone}
use Rattle.view_solver.proofs.moving.move_all.Given as goal

abbrev pub invariant-loop-component : goal.invariant-loop-component
invariant-loop-component l = Moved l.subject l.lock.0 (Each (ComponentDone l.subject l.lock.0) l.component) l.fn.solution l.solution l.changed
