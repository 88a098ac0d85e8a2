use Rattle.view_solver.proofs.Rounds.{empty_below}
use Rattle.solver.proofs.Turns.{facts_kept}
use Rattle.solver.proofs.Visits.{none_led}
use Rattle.view_solver.proofs.solving.solve.Goals as goal

pub move_all-requires : goal.move_all-requires
move_all-requires g c = record { sound = c.told.ensures; lock = c.requires; places = c.in_ok-solution.ensures.places }

pub solve_rounds-requires-clause-facts : goal.solve_rounds-requires-clause-facts
solve_rounds-requires-clause-facts g c = facts_kept _ _ _ _ (c.move_all.ensures (g.R.Rows.masks c.args.rows.now)).size (record { sound = c.told.ensures; lock = c.requires; places = c.in_ok-solution.ensures.places })

pub solve_rounds-requires-clause-below : goal.solve_rounds-requires-clause-below
solve_rounds-requires-clause-below g c = (c.move_all.ensures _).below _ (empty_below _ _ _ _ c.in_ok-solution.ensures.empty)

pub solve_rounds-requires-clause-led : goal.solve_rounds-requires-clause-led
solve_rounds-requires-clause-led g c = none_led _ _ _ _ _ c.in_ok-worklist.ensures.places c.in_ok-worklist.ensures.empty
