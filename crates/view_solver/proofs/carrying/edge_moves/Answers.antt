use Rattle.std.proofs.Common.{sym}
use Rattle.view_solver.proofs.Relations.{moves_none, moves_one}
use Rattle.view_solver.proofs.carrying.edge_moves.Goals as goal

pub carry_word-requires : goal.carry_word-requires
carry_word-requires c = record { facts = c.requires.facts; component = c.requires.component; number = c.args.number; there = sym c.in-Some.ensures.edge; from = c.in-Some.ensures.small.0; to = c.in-Some.ensures.small.1 }

pub returns-in_default : goal.returns-in_default
returns-in_default c = moves_none _ _ _ _ _ (sym c.in_default.ensures.edge)

pub returns : goal.returns
returns c = moves_one _ _ _ _ _ _ _ _ _ _ (sym c.in-Some.ensures.edge) c.view-seen.ensures c.itself.ensures c.carry_word.ensures c.join.ensures
