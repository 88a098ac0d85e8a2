use Rattle.solver.specs.Turns.{Each}
use Rattle.view_solver.specs.Views.{Moved, EdgeDone}
use Rattle.view_solver.proofs.moving.take_edges.Given as goal

abbrev pub invariant-loop-number : goal.invariant-loop-number
invariant-loop-number l = Moved l.subject l.lock.0 (Each (EdgeDone l.subject l.lock.0 l.component.0) l.number) l.fn.solution l.solution l.changed
