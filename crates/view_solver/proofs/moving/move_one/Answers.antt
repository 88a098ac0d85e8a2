use Rattle.solver.proofs.Turns.{facts_kept, no_masks}
use Rattle.view_solver.proofs.Moves.{component_turn}
use Rattle.view_solver.proofs.moving.move_one.Goals as goal

pub take_edges-taken-requires-clause-facts : goal.take_edges-taken-requires-clause-facts
take_edges-taken-requires-clause-facts c = facts_kept _ _ _ _ (c.begin-begun.ensures no_masks).size c.requires.facts

pub tell-told-requires-clause-facts : goal.tell-told-requires-clause-facts
tell-told-requires-clause-facts c = facts_kept _ _ _ _ (c.take_edges-taken.ensures no_masks).size (facts_kept _ _ _ _ (c.begin-begun.ensures no_masks).size c.requires.facts)

pub returns : goal.returns
returns c = λ masks. component_turn _ _ masks _ _ _ _ _ _ _ _ (c.begin-begun.ensures masks) (c.take_edges-taken.ensures masks) (c.tell-told.ensures masks)
