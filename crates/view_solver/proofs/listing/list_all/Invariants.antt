use Rattle.std.proofs.Common.{◌*◌}
use Rattle.view_solver.specs.Reported.{AreReported}
use Rattle.view_solver.proofs.listing.list_all.Given as goal

abbrev pub invariant-loop-component : goal.invariant-loop-component
invariant-loop-component l = AreReported l.subject (4096 * l.component) l.found.items
