use Rattle.solver.proofs.Turns.{no_masks}
use Rattle.solver.proofs.Visits.{called_turn, open_after}
use Rattle.solver.proofs.calls.call.Goals as goal

pub come_back-back-requires-clause-opened : goal.come_back-back-requires-clause-opened
come_back-back-requires-clause-opened c = open_after _ _ _ _ _ _ _ _ _ _ _ (c.enter-entered.ensures no_masks) c.requires.opened

pub throw_back-threw-requires-clause-opened : goal.throw_back-threw-requires-clause-opened
throw_back-threw-requires-clause-opened c = open_after _ _ _ _ _ _ _ _ _ _ _ (c.come_back-back.ensures no_masks) (open_after _ _ _ _ _ _ _ _ _ _ _ (c.enter-entered.ensures no_masks) c.requires.opened)

pub returns : goal.returns
returns c = λ masks. called_turn _ _ masks _ _ _ _ _ _ _ _ _ _ _ (c.enter-entered.ensures masks) (c.come_back-back.ensures masks) (c.throw_back-threw.ensures masks)
