use Rattle.view_solver.proofs.Relations.{carry_outside, carry_method}
use Rattle.view_solver.proofs.Callbacks.{callback_none, callback_some}
use Rattle.view_solver.proofs.carrying.carry_word.Goals as goal

pub returns-in_default : goal.returns-in_default
returns-in_default c = carry_outside _ _ _ _ _ _ (callback_none _ _ _ c.in_default.ensures.callback) c.enter_word-entered.ensures

pub ret_word-requires : goal.ret_word-requires
ret_word-requires c = rw c.requires.facts.places.rets (c.in-Some.ensures.entered.there)

pub returns : goal.returns
returns c = carry_method _ _ _ _ _ _ _ _ _ (callback_some _ _ _ _ c.in-Some.ensures.callback) c.enter_word-entered.ensures c.ret_word.ensures c.join.ensures
