use Rattle.cert_facts.proofs.Carries.{carried_outside, carried_method, callback_some, callback_none}
use Rattle.cert_facts.proofs.carrying.carried.Goals as goal

pub returns-in-Some : goal.returns-in-Some
returns-in-Some c = carried_method c.args.task.now _ _ _ _ _ _ (callback_some _ _ _ _ _ c.subject.ensures c.in-Some.ensures.callback) c.enter-entry.ensures.entered (rw c.new.ensures at c.returned.ensures)

pub returns-in-None : goal.returns-in-None
returns-in-None c = carried_outside c.args.task.now _ _ _ _ _ (callback_none _ _ _ _ c.subject.ensures c.in-None.ensures.callback) c.enter-entry.ensures.entered c.single.ensures
