use Rattle.std.proofs.Common.{sym}
use Rattle.solver.proofs.Turns.{turn_none, facts_kept, no_masks}
use Rattle.view_solver.proofs.Moves.{edge_turn}
use Rattle.view_solver.proofs.moving.take_edge.Goals as goal

pub returns-in_default : goal.returns-in_default
returns-in_default c = λ masks. turn_none _ _ _ _ (λ edge is. absurd (let none = c.in_default.ensures.edge in cc))

pub start-started-requires : goal.start-started-requires
start-started-requires c = record { facts = c.requires.facts; component = c.requires.component; number = c.args.number; there = sym c.in-Some.ensures.edge; from = c.in-Some.ensures.small.0; to = c.in-Some.ensures.small.1 }

pub move_on-moved-requires : goal.move_on-moved-requires
move_on-moved-requires c = record { facts = facts_kept _ _ _ _ (c.start-started.ensures no_masks).size c.requires.facts; component = c.requires.component; number = c.args.number; there = sym c.in-Some.ensures.edge; from = c.in-Some.ensures.small.0; to = c.in-Some.ensures.small.1 }

pub returns : goal.returns
returns c = λ masks. edge_turn _ _ masks _ _ _ _ _ _ _ _ (sym c.in-Some.ensures.edge) (c.start-started.ensures masks) (c.move_on-moved.ensures masks)
