use Rattle.std.proofs.Common.{sym, ◌∙◌}
use Rattle.view_solver.proofs.Relations.{enter_reset, enter_same}
use Rattle.view_solver.proofs.carrying.enter_word.Goals as goal

pub returns-then-clears : goal.returns-then-clears
returns-then-clears c = enter_reset _ _ _ c.args.edge (sym c.clears.ensures ∙ c.if-clears.true)

pub returns-else-clears : goal.returns-else-clears
returns-else-clears c = enter_same _ _ _ c.args.edge (sym c.clears.ensures ∙ c.if-clears.false)
